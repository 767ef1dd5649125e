-- A lawful booking keeps the book sound.
use Rattle.std.proofs.Common.{◌≡◌, ℕ, ◌<◌, ◌≤◌, true, false, cond, ◌⊎◌, List, [], ◌∷◌, ◌++◌, length, Ordering, sym, refl, ap, ◌∙◌, subst, inl, inr}
use Rattle.std.specs.List.{list_any}
use Rattle.std.proofs.lemmas.Bool.{true≢false, both_ways, and_cases, or_cases, or_left, or_right}
use Rattle.keys.specs.KeyKind.{Laws}
use Rattle.runs.specs.declared.table.Table.{Table}
use Rattle.sheets.specs.HiddenSet.{hiding}
use Rattle.sheets.specs.Members.{In, Every, Pairs, none, more}
use Rattle.sheets.specs.Tables.{memb, named}
use Rattle.sheets.proofs.Each.{none_in, in_cases, none_some, memb_in, in_memb}
use Rattle.sheets.proofs.Hiding.{memb_hiding}
use Rattle.strategies.specs.declared.choice.Kind.{Kind}
use Rattle.strategies.specs.declared.choice.Kind.TheVariants.{Move, Merge, Drop}
use Rattle.strategies.specs.Answer.{Chosen}
use Rattle.strategies.specs.Strategy.{Goes, Stands, Lawful}
use Rattle.books.specs.Book.{level_for, job_of, taken}
use Rattle.books.specs.Booked.{Disjoint, Clear, Lanes, UnmetHeld, Booked, crosses}
use Rattle.books.specs.Job.{Running}
use Rattle.books.proofs.Books.{disjoint_turn, lanes_turn}
use Rattle.books.proofs.BookTests.{lanes_test}
use Rattle.books.proofs.Outs.{Out, out_in, out_rest, out_each, pairs_out, pairs_append}

-- ---- what is hidden afterwards
pub in_hiding : {n : ℕ} (hs ns : List ℕ) → In n (hiding hs ns) → In n hs ⊎ In n ns
in_hiding {n} hs ns m =
    elim (or_cases (memb n hs) (memb n ns) (sym (memb_hiding n hs ns) ∙ in_memb n (hiding hs ns) m)) [ inl h ↦ inl (memb_in n hs h) | inr h ↦ inr (memb_in n ns h) ]

hid_before : (n : ℕ) (hs ns : List ℕ) → memb n hs ≡ true → memb n (hiding hs ns) ≡ true
hid_before n hs ns h = memb_hiding n hs ns ∙ or_left (memb n hs) (memb n ns) h

hid_now : (n : ℕ) (hs ns : List ℕ) → memb n ns ≡ true → memb n (hiding hs ns) ≡ true
hid_now n hs ns h = memb_hiding n hs ns ∙ or_right (memb n hs) (memb n ns) h

-- no number is hidden twice
pub hiding_once : (hs ns : List ℕ) → Pairs (λ m n. m ≡ n → ⊥) hs → Pairs (λ m n. m ≡ n → ⊥) (hiding hs ns)
hiding_once hs [] ps = ps
hiding_once hs (n ∷ ns) ps =
    hiding_once (cond (memb n hs) hs (hs ++ n ∷ [])) ns
    (elim (memb n hs) as (λ b. memb n hs ≡ b → Pairs (λ m n. m ≡ n → ⊥) (cond b hs (hs ++ n ∷ []))) [
      | true ↦ λ e. ps
      | false ↦ λ e. pairs_append (λ m n. m ≡ n → ⊥) ps (more (λ y m. absurd (none_in m)) none)
          (λ x y m k q. elim (in_cases k) [ inl z ↦ both_ways _ e (ap (λ i. memb i hs) (sym (q ∙ z)) ∙ in_memb x hs m) | inr z ↦ none_in z ])
    ] refl)

-- a named table that stands is not hidden
untaken : {K : Type 0} (ts : List (Table K)) (hs : List ℕ) (c : Chosen) → Every (Stands ts) c.numbers → list_any (taken hs c) ts ≡ false → (n : ℕ) → In n c.numbers → memb n hs ≡ false
untaken ts hs c stands free n m =
    let w = stands n m in
    elim (and_cases (named c.numbers w.0) (named hs w.0) (none_some (taken hs c) ts free w.0 w.1)) [
      | inl e ↦ absurd (true≢false (sym (ap (λ k. memb k c.numbers) w.2 ∙ in_memb n c.numbers m) ∙ e))
      | inr e ↦ ap (λ k. memb k hs) (sym w.2) ∙ e
    ]

-- a move or a merge goes to its destination
level_is : (k : Kind) (level : ℕ) → Goes k → level_for k level ≡ level
level_is Move level g = refl
level_is Merge level g = refl
level_is Drop level g = absurd (g refl)

module _ {K : Type 0} {cmp : K → K → Ordering} (laws : Laws cmp) {ts : List (Table K)} {hidden : List ℕ} {jobs jobs' : List Running} {c : Chosen}
    (b : Booked cmp ts hidden jobs) (o : Out (job_of c) jobs' jobs) (law : Lawful cmp ts c) (full : 0 < length c.numbers)
    (free : list_any (taken hidden c) ts ≡ false) (clear : list_any (crosses cmp ts (job_of c)) jobs ≡ false) (few : length jobs' ≤ 8) (fits : length (hiding hidden c.numbers) ≤ 256) where
  abbrev all : List ℕ
  all = hiding hidden c.numbers

  unhidden : (n : ℕ) → memb n c.numbers ≡ true → memb n hidden ≡ false
  unhidden n h = untaken ts hidden c law.stands free n (memb_in n c.numbers h)

  pub booking_keeps : Booked cmp ts all jobs'
  booking_keeps =
      record {
        few = (fits, few);
        once = hiding_once hidden c.numbers b.once;
        stands = λ n m. elim (in_hiding hidden c.numbers m) [ inl k ↦ b.stands n k | inr k ↦ law.stands n k ];
        owned = λ n m. elim (in_hiding hidden c.numbers m) [ inl k ↦ let w = b.owned n k in (w.0, out_rest o w.1, w.2) | inr k ↦ (job_of c, out_in o, in_memb n c.numbers k) ];
        hides = out_each (λ k. Every (λ n. memb n all ≡ true) k.numbers) o (λ n m. hid_now n hidden c.numbers (in_memb n c.numbers m)) (λ k i n m. hid_before n hidden c.numbers (b.hides k i n m));
        disjoint = pairs_out Disjoint disjoint_turn o b.disjoint (λ k i n x y. both_ways _ (unhidden n x) (b.hides k i n (memb_in n k.numbers y)));
        filled = out_each (λ k. 0 < length k.numbers) o full b.filled;
        destined = out_each (λ k. Goes k.kind → (1 ≤ k.destination) × (k.destination ≤ 6)) o (λ g. subst (λ n. (1 ≤ n) × (n ≤ 6)) (sym (level_is c.kind c.destination g)) (law.destined g)) b.destined;
        clear = out_each (λ k. Goes k.kind → Clear cmp ts k) o (λ g u m e. law.others g u m (e ∙ level_is c.kind c.destination g)) b.clear;
        lanes = pairs_out (Lanes cmp ts) (lanes_turn laws ts) o b.lanes (λ k i. lanes_test cmp ts (job_of c) k (none_some (crosses cmp ts (job_of c)) jobs clear k i));
        moves = out_each (λ k. k.kind ≡ Move → UnmetHeld cmp ts k) o law.apart b.moves;
      }
