-- The law of strategies.
use Rattle.std.specs.Prelude.{◌≡◌, ℕ, ◌≤◌, Bool, false, List, length, Some, None, filter, Option, ◌≢◌}
use Rattle.std.specs.declared.cmp.Ordering.{Ordering}
use Rattle.keys.specs.declared.key_range.KeyRange.{KeyRange}
use Rattle.keys.specs.KeyRange.{meets}
use Rattle.runs.specs.declared.table.Table.{Table}
use Rattle.runs.specs.Run.{span_of}
use Rattle.picks.specs.Movable.{meets_span}
use Rattle.sheets.specs.Level.{numbers_of, size_of}
use Rattle.sheets.specs.Members.{In, Every, Pairs}
use Rattle.sheets.specs.Sound.{Sound, Differ}
use Rattle.sheets.specs.Tables.{named}
use Rattle.strategies.specs.declared.choice.Kind.{Kind}
use Rattle.strategies.specs.declared.choice.Kind.TheVariants.{Move, Drop}
use Rattle.strategies.specs.Answer.{Chosen, Answer, nothing, chooses, declines}

-- a table of this number stands
abbrev pub Stands : {K : Type 0} → List (Table K) → ℕ → Type 0
Stands {K} ts n = (t : Table K) × In t ts × (t.number ≡ n)

-- it is a move or a merge
abbrev pub Goes : Kind → Type 0
Goes kind = kind ≡ Drop → ⊥

-- two spans meet; no tables have a span, and nothing meets it
abbrev pub spans_meet : {K : Type 0} → (K → K → Ordering) → Option (KeyRange K) → Option (KeyRange K) → Bool
spans_meet cmp None r = false
spans_meet cmp (Some a) None = false
spans_meet cmp (Some a) (Some b) = meets cmp a b

module _ {K : Type 0} (cmp : K → K → Ordering) (ts : List (Table K)) (c : Chosen) where
  -- the standing tables that are named
  abbrev pub chosen_of : List (Table K)
  chosen_of = filter (named c.numbers) ts

  -- What is named stands, each once; a destination is 1 to 6; tables of a move do not meet;
  -- and no table of the destination that is not named meets the span of all that are.
  pub record Lawful : Type 0 where
    pub stands : Every (Stands ts) c.numbers
    pub once : Pairs (λ m n. m ≢ n) c.numbers
    pub destined : Goes c.kind → (1 ≤ c.destination) × (c.destination ≤ 6)
    pub apart : c.kind ≡ Move → (t u : Table K) → In t chosen_of → In u chosen_of → Differ t u → meets cmp t.range u.range ≡ false
    pub others : Goes c.kind → (u : Table K) → In u ts → u.level ≡ c.destination → named c.numbers u ≡ false
        → meets_span cmp (λ t. t.range) (span_of cmp (λ t. t.range) chosen_of) u ≡ false

  -- the numbers are in sheet order, and the bytes are the sum of the sizes of the tables that have them
  pub record Told : Type 0 where
    pub order : c.numbers ≡ numbers_of chosen_of
    pub bytes : c.bytes ≡ size_of chosen_of

module _ {K : Type 0} (cmp : K → K → Ordering) where
  -- a choice is lawful; doing nothing and refusing are
  abbrev pub LawfulAnswer : List (Table K) → Answer → Type 0
  LawfulAnswer ts nothing = Unit {0}
  LawfulAnswer ts (chooses c) = Lawful cmp ts c
  LawfulAnswer ts (declines d) = Unit {0}

  -- the law: on a sound sheet and any hidden numbers
  abbrev pub Law : (List (Table K) → List ℕ → Answer) → Type 0
  Law g = (room blobs : ℕ) (ts : List (Table K)) (hs : List ℕ) → Sound cmp room (length ts) blobs ts → LawfulAnswer ts (g ts hs)
