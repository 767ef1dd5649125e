-- On tables that are equal but for keys that compare alike, the test of a book comes out alike.
use Rattle.std.proofs.Common.{◌≡◌, ℕ, Bool, not, ◌&&◌, eqb, leb, List, [], ◌∷◌, length, Ordering, refl, ap, ◌∙◌}
use Rattle.std.specs.List.{list_any, list_all}
use Rattle.keys.specs.KeyRange.{meets}
use Rattle.keys.specs.Pairing.{Both, nil, cons, CompareAlike}
use Rattle.keys.proofs.Alike.{kept_alike, meets_alike}
use Rattle.runs.specs.declared.table.Table.{Table}
use Rattle.runs.specs.Pairing.{Twin, TwinSpans}
use Rattle.runs.proofs.Alike.{span_alike}
use Rattle.sheets.specs.Level.{numbers_of}
use Rattle.sheets.specs.Sound.{distinct, sheet_ok}
use Rattle.sheets.specs.Tables.{memb, named}
use Rattle.sheets.proofs.Alike.{named_alike}
use Rattle.sheets.proofs.AlikeLevels.{all_alike, numbers_alike}
use Rattle.sheets.proofs.AlikeSound.{sheet_alike}
use Rattle.sheets.proofs.Each.{all_same}
use Rattle.picks.proofs.Alike.{meets_span_alike}
use Rattle.strategies.proofs.NamingAlike.{spans_meet_alike}
use Rattle.strategies.specs.declared.choice.Kind.{Kind}
use Rattle.strategies.specs.declared.choice.Kind.TheVariants.{Move, Merge, Drop}
use Rattle.books.specs.Booked.{pairs_by, span_held, is_clear, kind_ok, job_ok, is_going, crosses, jobs_apart, book_ok, state_ok}
use Rattle.books.specs.Job.{Running, running, held}
use Rattle.books.specs.Pairing.{TwinState, twin}
use Rattle.books.specs.State.{State}

-- ---- tests of each two, on lists that pair
pub pairs_alike : {X Y : Type 0} (S : X → Y → Type 0) (p : X → X → Bool) (q : Y → Y → Bool) → ((x x' : X) (y y' : Y) → S x y → S x' y' → p x x' ≡ q y y') → {xs : List X} {ys : List Y} → Both S xs ys → pairs_by p xs ≡ pairs_by q ys
pairs_alike S p q f nil = refl
pairs_alike S p q f (cons {x} {y} s r) = rw (all_alike S (p x) (q y) (λ x' y' s'. f x x' y y' s s') r, pairs_alike S p q f r)

-- ---- two tests that agree, on one list
module _ {X : Type 0} where
  pairs_same : (p q : X → X → Bool) (xs : List X) → ((x y : X) → p x y ≡ q x y) → pairs_by p xs ≡ pairs_by q xs
  pairs_same p q [] f = refl
  pairs_same p q (x ∷ xs) f = rw (all_same (p x) (q x) (f x) xs, pairs_same p q xs f)

pub held_alike : {A B : Type 0} (R : A → B → Type 0) (j : Running) {ts : List (Table A)} {us : List (Table B)} → Both (Twin R) ts us → Both (Twin R) (held j ts) (held j us)
held_alike R j w = kept_alike (Twin R) (named j.numbers) (named j.numbers) (named_alike R j.numbers) w

module _ {A B : Type 0} (cmp_a : A → A → Ordering) (cmp_b : B → B → Ordering) (R : A → B → Type 0) (alike : CompareAlike cmp_a cmp_b R) where
  module _ {ts : List (Table A)} {us : List (Table B)} (w : Both (Twin R) ts us) where
    pub span_held_alike : (j : Running) → TwinSpans R (span_held cmp_a ts j) (span_held cmp_b us j)
    span_held_alike j = span_alike cmp_a cmp_b R alike (λ t. t.range) (λ u. u.range) (Twin R) (λ t u v. v.range) (held_alike R j w)

    -- ---- jobs
    clear_alike : (j : Running) (t : Table A) (u : Table B) → Twin R t u → is_clear cmp_a ts j t ≡ is_clear cmp_b us j u
    clear_alike j t u v = rw (meets_span_alike cmp_a cmp_b R alike (λ t. t.range) (λ u. u.range) (Twin R) (λ t u v. v.range) (span_held_alike j) t u v, v.level, v.number)

    all_clear_alike : (j : Running) → list_all (is_clear cmp_a ts j) ts ≡ list_all (is_clear cmp_b us j) us
    all_clear_alike j = all_alike (Twin R) (is_clear cmp_a ts j) (is_clear cmp_b us j) (clear_alike j) w

    kind_alike : (j : Running) (k : Kind) → kind_ok cmp_a ts j k ≡ kind_ok cmp_b us j k
    kind_alike j Move =
        rw (all_clear_alike j, pairs_alike (Twin R) (λ t u. not (meets cmp_a t.range u.range)) (λ t u. not (meets cmp_b t.range u.range)) (λ t t' u u' v v'. ap not (meets_alike cmp_a cmp_b R alike v.range v'.range)) (held_alike R j w))
    kind_alike j Merge = rw (all_clear_alike j)
    kind_alike j Drop = refl

    pub crosses_alike : (j k : Running) → crosses cmp_a ts j k ≡ crosses cmp_b us j k
    crosses_alike j k = ap (λ b. is_going j.kind && (is_going k.kind && (eqb j.destination k.destination && b))) (spans_meet_alike cmp_a cmp_b R alike (span_held_alike j) (span_held_alike k))

    pub book_alike : (hidden : List ℕ) (jobs : List Running) → book_ok cmp_a ts hidden jobs ≡ book_ok cmp_b us hidden jobs
    book_alike hidden jobs =
        let few = leb (length hidden) 256 && leb (length jobs) 8 in
        let stand = all_same (λ n. memb n (numbers_of ts) && list_any (λ j. memb n j.numbers) jobs) (λ n. memb n (numbers_of us) && list_any (λ j. memb n j.numbers) jobs) (λ n. ap (λ ns. memb n ns && list_any (λ j. memb n j.numbers) jobs) (numbers_alike R w)) hidden in
        let each = all_same (job_ok cmp_a ts hidden) (job_ok cmp_b us hidden) (λ j. ap (λ b. leb 1 (length j.numbers) && (list_all (λ n. memb n hidden) j.numbers && b)) (kind_alike j j.kind)) jobs in
        let two = pairs_same (jobs_apart cmp_a ts) (jobs_apart cmp_b us) jobs (λ j k. ap (λ b. not (list_any (λ n. memb n k.numbers) j.numbers) && not b) (crosses_alike j k)) in
        ap (λ b. few && (distinct hidden && (b && (list_all (job_ok cmp_a ts hidden) jobs && pairs_by (jobs_apart cmp_a ts) jobs)))) stand
        ∙ ap (λ b. few && (distinct hidden && (list_all (λ n. memb n (numbers_of us) && list_any (λ j. memb n j.numbers) jobs) hidden && (b && pairs_by (jobs_apart cmp_a ts) jobs)))) each
        ∙ ap (λ b. few && (distinct hidden && (list_all (λ n. memb n (numbers_of us) && list_any (λ j. memb n j.numbers) jobs) hidden && (list_all (job_ok cmp_b us hidden) jobs && b)))) two

  -- ---- book and sheet
  pub state_alike : {s : State A} {t : State B} → TwinState R s t → state_ok cmp_a s ≡ state_ok cmp_b t
  state_alike (twin {room} {standing} {blobs} {hidden} {slots} {ts} {us} w) =
      ap (λ b. b && book_ok cmp_a ts hidden (running slots)) (sheet_alike cmp_a cmp_b R alike room standing blobs w)
      ∙ ap (λ b. sheet_ok cmp_b room standing blobs us && b) (book_alike w hidden (running slots))
