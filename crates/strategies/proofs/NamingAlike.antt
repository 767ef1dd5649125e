-- On tables that are equal but for keys that compare alike, tests that come out alike name alike.
use Rattle.std.proofs.Common.{◌≡◌, ℕ, Bool, cond, ◌&&◌, ◌||◌, List, [], ◌∷◌, map, filter, Option, Ordering, refl, ap, ◌∙◌}
use Rattle.keys.specs.declared.key_range.KeyRange.{KeyRange}
use Rattle.keys.specs.Pairing.{Both, CompareAlike}
use Rattle.keys.proofs.Alike.{cond_alike, kept_alike, meets_alike}
use Rattle.runs.specs.declared.table.Table.{Table}
use Rattle.runs.specs.Pairing.{Twin, TwinSpans, no_span, a_span}
use Rattle.sheets.specs.Level.{numbers_of, size_of}
use Rattle.sheets.proofs.AlikeLevels.{numbers_alike, size_alike}
use Rattle.strategies.specs.declared.choice.Kind.{Kind}
use Rattle.strategies.specs.Answer.{chooses, naming}
use Rattle.strategies.specs.Strategy.{spans_meet}

-- ---- tests that are equal
pub cond_same : {X : Type 0} {b c : Bool} → b ≡ c → {x x' y y' : X} → x ≡ y → x' ≡ y' → cond b x x' ≡ cond c y y'
cond_same {b = b} {c = c} e h k = cond_alike (λ x y. x ≡ y) b c e _ _ _ _ h k

pub and_same : {a b c d : Bool} → a ≡ b → c ≡ d → (a && c) ≡ (b && d)
and_same e f = rw (e, f)

pub or_same : {a b c d : Bool} → a ≡ b → c ≡ d → (a || c) ≡ (b || d)
or_same e f = rw (e, f)

module _ {X : Type 0} where
  pub map_like : {Y : Type 0} (f g : X → Y) → ((x : X) → f x ≡ g x) → (xs : List X) → map f xs ≡ map g xs
  map_like f g h [] = refl
  map_like f g h (x ∷ xs) = rw (h x, map_like f g h xs)

-- ---- what is named
module _ {A B : Type 0} (R : A → B → Type 0) where
  -- two tests come out alike on tables that pair
  abbrev pub TestsAlike : (Table A → Bool) → (Table B → Bool) → Type 0
  TestsAlike p q = (t : Table A) (u : Table B) → Twin R t u → p t ≡ q u

  pub naming_alike : (kind : Kind) (d c z : ℕ) (p : Table A → Bool) (q : Table B → Bool) → TestsAlike p q → {ts : List (Table A)} {us : List (Table B)} → Both (Twin R) ts us → naming kind d c z p ts ≡ naming kind d c z q us
  naming_alike kind d c z p q f {ts} {us} w =
      let x = kept_alike (Twin R) p q f w in
      ap (λ ns. chooses (record { kind = kind; numbers = ns; bytes = size_of (filter p ts); destination = d; canonical = c; target = z })) (numbers_alike R x)
      ∙ ap (λ b. chooses (record { kind = kind; numbers = numbers_of (filter q us); bytes = b; destination = d; canonical = c; target = z })) (size_alike R x)

-- ---- spans
module _ {A B : Type 0} (cmp_a : A → A → Ordering) (cmp_b : B → B → Ordering) (R : A → B → Type 0) (alike : CompareAlike cmp_a cmp_b R) where
  pub spans_meet_alike : {o o' : Option (KeyRange A)} {p p' : Option (KeyRange B)} → TwinSpans R o p → TwinSpans R o' p' → spans_meet cmp_a o o' ≡ spans_meet cmp_b p p'
  spans_meet_alike no_span y = refl
  spans_meet_alike (a_span x) no_span = refl
  spans_meet_alike (a_span x) (a_span y) = meets_alike cmp_a cmp_b R alike x y
