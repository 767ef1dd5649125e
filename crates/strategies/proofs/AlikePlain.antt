-- Major, range drop and FIFO, and the question put to any strategy that does, answer alike about tables that are equal but for keys that compare alike.
use Rattle.std.proofs.Common.{◌≡◌, ℕ, suc, ◌+◌, ◌*◌, Bool, true, not, ◌&&◌, eqb, ltb, leb, List, length, take, Ordering, refl, ap, ◌∙◌}
use Rattle.keys.specs.declared.bounds.OwnedBounds.{OwnedBounds}
use Rattle.keys.specs.Pairing.{Both, nil, cons, CompareAlike, TwinBounds}
use Rattle.keys.proofs.Alike.{length_alike, take_alike, sum_alike, kept_alike, within_alike}
use Rattle.runs.specs.declared.table.Table.{Table}
use Rattle.runs.specs.Pairing.{Twin}
use Rattle.sheets.specs.Sound.{sheet_ok}
use Rattle.sheets.specs.Tables.{named}
use Rattle.sheets.proofs.Alike.{named_alike}
use Rattle.sheets.proofs.AlikeLevels.{some_alike, size_alike, in_level_alike, level_alike, filled_alike, runs_alike}
use Rattle.sheets.proofs.AlikeSound.{sheet_alike}
use Rattle.strategies.specs.declared.choice.Kind.TheVariants.{Merge, Drop}
use Rattle.strategies.specs.declared.declined.Declined.TheVariants.{HiddenTable}
use Rattle.strategies.specs.Answer.{Answer, declines, asked, noted}
use Rattle.strategies.specs.DropRange.{in_bounds, drop_range}
use Rattle.strategies.specs.Fifo.{place_of, weight, older, hidden_first, expired, expired_first, live, left_over, older_weight, goes, fifo}
use Rattle.strategies.specs.Major.{major}
use Rattle.strategies.specs.Question.{proposed, ids_after}
use Rattle.strategies.proofs.NamingAlike.{cond_same, and_same, or_same, TestsAlike, naming_alike}

pub place_of_alike : {X Y : Type 0} (S : X → Y → Type 0) (p : X → Bool) (q : Y → Bool) → ((x : X) (y : Y) → S x y → p x ≡ q y) → {xs : List X} {ys : List Y} → Both S xs ys → place_of p xs ≡ place_of q ys
place_of_alike S p q f nil = refl
place_of_alike S p q f (cons {x} {y} s r) = cond_same (f x y s) refl (ap suc (place_of_alike S p q f r))

module _ {A B : Type 0} (R : A → B → Type 0) where
  -- ---- major
  pub major_alike : (target : ℕ) {ts : List (Table A)} {us : List (Table B)} → Both (Twin R) ts us → (hs : List ℕ) → major target ts hs ≡ major target us hs
  major_alike target w hs = cond_same (some_alike (Twin R) (named hs) (named hs) (named_alike R hs) w) refl (naming_alike R Merge 6 6 target (λ t. true) (λ u. true) (λ t u v. refl) w)

  -- ---- FIFO
  pub weight_alike : (t : Table A) (u : Table B) → Twin R t u → weight t ≡ weight u
  weight_alike t u v = rw (v.size, v.linked)

  pub hidden_first_alike : (hs : List ℕ) → TestsAlike R (hidden_first hs) (hidden_first hs)
  hidden_first_alike hs t u v = and_same (in_level_alike R 0 t u v) (named_alike R hs t u v)

  module _ (ttl clock : ℕ) where
    pub expired_alike : TestsAlike R (expired ttl clock) (expired ttl clock)
    expired_alike t u v = ap (λ n. not (eqb ttl 0) && leb (n + ttl * 1000000000) clock) v.created

    pub expired_first_alike : TestsAlike R (expired_first ttl clock) (expired_first ttl clock)
    expired_first_alike t u v = and_same (in_level_alike R 0 t u v) (expired_alike t u v)

    pub live_alike : TestsAlike R (live ttl clock) (live ttl clock)
    live_alike t u v = and_same (in_level_alike R 0 t u v) (ap not (expired_alike t u v))

    module _ {ts : List (Table A)} {us : List (Table B)} (w : Both (Twin R) ts us) where
      -- the place of a number
      place_alike : {m n : ℕ} → m ≡ n → place_of (λ v. eqb v.number m) ts ≡ place_of (λ v. eqb v.number n) us
      place_alike {m} {n} e = place_of_alike (Twin R) (λ v. eqb v.number m) (λ v. eqb v.number n) (λ t u v. rw (v.number, e)) w

      pub older_alike : (t : Table A) (u : Table B) → Twin R t u → TestsAlike R (older ts t) (older us u)
      older_alike t u v t' u' v' = rw (v.created, v'.created, place_alike v.number, place_alike v'.number)

      pub left_over_alike : (blobs : ℕ) → left_over ttl clock blobs ts ≡ left_over ttl clock blobs us
      left_over_alike blobs =
          rw (size_alike R (level_alike R 0 w), sum_alike (Twin R) weight weight weight_alike (kept_alike (Twin R) (expired_first ttl clock) (expired_first ttl clock) expired_first_alike w))

      pub older_weight_alike : (t : Table A) (u : Table B) → Twin R t u → older_weight ttl clock ts t ≡ older_weight ttl clock us u
      older_weight_alike t u v =
          sum_alike (Twin R) weight weight weight_alike
          (kept_alike (Twin R) (λ x. live ttl clock x && older ts t x) (λ y. live ttl clock y && older us u y) (λ x y s. and_same (live_alike x y s) (older_alike t u v x y s)) w)

      pub goes_alike : (limit left left' : ℕ) → left ≡ left' → TestsAlike R (goes ttl clock limit left ts) (goes ttl clock limit left' us)
      goes_alike limit left left' e t u v = and_same (in_level_alike R 0 t u v) (or_same (expired_alike t u v) (rw (older_weight_alike t u v, e)))

  pub fifo_alike : (limit ttl blobs clock : ℕ) {ts : List (Table A)} {us : List (Table B)} → Both (Twin R) ts us → (hs : List ℕ) → fifo limit ttl blobs clock ts hs ≡ fifo limit ttl blobs clock us hs
  fifo_alike limit ttl blobs clock w hs =
      let go = goes_alike ttl clock w limit _ _ (left_over_alike ttl clock w blobs) in
      cond_same (ap not (filled_alike R 0 w)) refl
      (cond_same (ap (ltb 1) (runs_alike R w)) refl
      (cond_same (some_alike (Twin R) _ _ (hidden_first_alike hs) w) (ap (λ n. declines (HiddenTable n)) (place_of_alike (Twin R) _ _ (hidden_first_alike hs) w))
      (cond_same (some_alike (Twin R) _ _ go w) (naming_alike R Drop 0 0 0 _ _ go w) refl)))

-- ---- range drop
module _ {A B : Type 0} (cmp_a : A → A → Ordering) (cmp_b : B → B → Ordering) (R : A → B → Type 0) (alike : CompareAlike cmp_a cmp_b R) where
  pub in_bounds_alike : {l : OwnedBounds A} {m : OwnedBounds B} → TwinBounds R l m → TestsAlike R (in_bounds cmp_a l) (in_bounds cmp_b m)
  in_bounds_alike b t u v = within_alike cmp_a cmp_b R alike b v.range

  pub drop_range_alike : {l : OwnedBounds A} {m : OwnedBounds B} → TwinBounds R l m → {ts : List (Table A)} {us : List (Table B)} → Both (Twin R) ts us → (hs : List ℕ) → drop_range cmp_a l ts hs ≡ drop_range cmp_b m us hs
  drop_range_alike b w hs =
      cond_same (some_alike (Twin R) _ _ (λ t u v. and_same (in_bounds_alike b t u v) (named_alike R hs t u v)) w) refl (naming_alike R Drop 0 0 0 _ _ (in_bounds_alike b) w)

-- ---- the question
module _ {A B : Type 0} (cmp_a : A → A → Ordering) (cmp_b : B → B → Ordering) (R : A → B → Type 0) (alike : CompareAlike cmp_a cmp_b R) (g : List (Table A) → List ℕ → Answer) (h : List (Table B) → List ℕ → Answer)
    (standing : ℕ) (hs : List ℕ) (blobs : ℕ) (answers : (ts : List (Table A)) (us : List (Table B)) → Both (Twin R) ts us → g ts hs ≡ h us hs) {sheet : List (Table A)} {sheet' : List (Table B)} (w : Both (Twin R) sheet sheet') where
  same_test : sheet_ok cmp_a (length sheet) standing blobs (take standing sheet) ≡ sheet_ok cmp_b (length sheet') standing blobs (take standing sheet')
  same_test =
      sheet_alike cmp_a cmp_b R alike (length sheet) standing blobs (take_alike (Twin R) standing w)
      ∙ ap (λ n. sheet_ok cmp_b n standing blobs (take standing sheet')) (length_alike (Twin R) w)

  pub proposed_alike : (places : ℕ) → proposed cmp_a g sheet standing hs blobs places ≡ proposed cmp_b h sheet' standing hs blobs places
  proposed_alike places = cond_same same_test (ap (λ a. asked a places) (answers _ _ (take_alike (Twin R) standing w))) refl

  pub ids_after_alike : (ids : List ℕ) → ids_after cmp_a g sheet standing hs blobs ids ≡ ids_after cmp_b h sheet' standing hs blobs ids
  ids_after_alike ids = cond_same same_test (ap (λ a. noted a ids) (answers _ _ (take_alike (Twin R) standing w))) refl
