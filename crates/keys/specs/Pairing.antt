-- Values that are equal but for keys, which pair: `R a b` says that a key of one kind pairs with one of another.
use Rattle.std.specs.Prelude.{◌≡◌, List, [], ◌∷◌}
use Rattle.std.specs.declared.cmp.Ordering.{Ordering}
use Rattle.keys.specs.declared.key_range.KeyRange.{KeyRange}
use Rattle.std.specs.declared.ops.Bound.{Bound}
use Rattle.std.specs.declared.ops.Bound.TheVariants.{Unbounded, Included, Excluded}
use Rattle.keys.specs.declared.bounds.OwnedBounds.{OwnedBounds}

-- two lists pair place by place
pub data Both {X Y : Type 0} (S : X → Y → Type 0) : List X → List Y → Type 0 where
  nil : Both S [] []
  cons : {x : X} {y : Y} {xs : List X} {ys : List Y} → S x y → Both S xs ys → Both S (x ∷ xs) (y ∷ ys)

-- any two pairs of keys compare alike
abbrev pub CompareAlike : {A B : Type 0} → (A → A → Ordering) → (B → B → Ordering) → (A → B → Type 0) → Type 0
CompareAlike {A} {B} cmp_a cmp_b R = (a a' : A) (b b' : B) → R a b → R a' b' → cmp_a a a' ≡ cmp_b b b'

module _ {A B : Type 0} (R : A → B → Type 0) where
  -- both ends of two ranges pair
  pub record TwinRange (r : KeyRange A) (s : KeyRange B) : Type 0 where
    pub min : R r.min s.min
    pub max : R r.max s.max

  -- two bounds are of one kind, and their keys pair
  pub data TwinBound : Bound A → Bound B → Type 0 where
    unbounded : TwinBound Unbounded Unbounded
    included : {a : A} {b : B} → R a b → TwinBound (Included a) (Included b)
    excluded : {a : A} {b : B} → R a b → TwinBound (Excluded a) (Excluded b)

  -- both bounds of two pairs of them pair
  pub record TwinBounds (r : OwnedBounds A) (s : OwnedBounds B) : Type 0 where
    pub start : TwinBound r.start s.start
    pub end : TwinBound r.end s.end
