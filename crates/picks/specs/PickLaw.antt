-- What a pick promises.
use Rattle.std.specs.Prelude.{◌≡◌, ℕ, ◌+◌, ◌*◌, ◌<◌, ◌≤◌, true, false, List, length, Some, None, Option, sum_by}
use Rattle.std.specs.declared.cmp.Ordering.{Ordering}
use Rattle.keys.specs.declared.key_range.KeyRange.{KeyRange}
use Rattle.windows.specs.declared.slice_windows.Window.{Window}
use Rattle.runs.specs.Run.{span_of}
use Rattle.windows.specs.SliceWindows.{tables_of, Within, Shorter}
use Rattle.sheets.specs.Members.{Every}
use Rattle.sheets.specs.Tables.{memb}
use Rattle.picks.specs.declared.merge.Merging.{Merging}
use Rattle.picks.specs.declared.pick.Pick.{Pick}
use Rattle.picks.specs.declared.pick.Pick.TheVariants.{Move, Merge}
use Rattle.picks.specs.Merge.{contained, begun_before, admissible}
use Rattle.picks.specs.Movable.{meets_span, movable}

module _ {K T : Type 0} (cmp : K → K → Ordering) (spans : T → KeyRange K) (bytes named : T → ℕ) (hs : List ℕ) (curr next : List T) (target : ℕ) where
  -- no window of the level is movable
  abbrev pub NoneMovable : Type 0
  NoneMovable = (v : Window) → Within (length curr) v → movable cmp spans named hs curr next v ≡ false

  -- no window of the next level is admissible
  abbrev pub NoneAdmissible : Type 0
  NoneAdmissible = (v : Window) → Within (length next) v → admissible cmp spans bytes named hs curr next target v ≡ false

  -- the bytes of a window of the next level and of what it contains
  abbrev pub weight : Window → ℕ
  weight v = sum_by bytes (tables_of v next) + sum_by bytes (contained cmp spans curr next v)

  -- none of some tables is hidden
  abbrev pub AllFree : List T → Type 0
  AllFree ts = Every (λ t. memb (named t) hs ≡ false) ts

  -- a movable window: nothing in it is hidden, and nothing of the next level meets its span; none that is movable is longer, and none as long begins before it
  pub record Moves (w : Window) : Type 0 where
    pub window : Within (length curr) w
    pub moves : movable cmp spans named hs curr next w ≡ true
    pub free : AllFree (tables_of w curr)
    pub clear : Every (λ u. meets_span cmp spans (span_of cmp spans (tables_of w curr)) u ≡ false) next
    pub longest : (v : Window) → Within (length curr) v → movable cmp spans named hs curr next v ≡ true → v.len ≤ w.len
    pub leftmost : (v : Window) → Within (length curr) v → movable cmp spans named hs curr next v ≡ true → v.len ≡ w.len → w.start ≤ v.start

  -- an admissible window with the tables that it contains and the bytes of all, where nothing is movable: it is not too large, what it contains weighs something, and nothing is hidden;
  -- every other that is admissible has at least as many bytes, and more if it is read before
  pub record Merges (m : Merging) : Type 0 where
    pub stays : NoneMovable
    pub window : Within (length next) m.next
    pub merges : admissible cmp spans bytes named hs curr next target m.next ≡ true
    pub most : sum_by bytes (tables_of m.next next) ≤ 50 * target
    pub some : 0 < sum_by bytes (contained cmp spans curr next m.next)
    pub free : AllFree (tables_of m.next next) × AllFree (contained cmp spans curr next m.next)
    pub place : m.curr.start ≡ begun_before cmp spans curr next m.next
    pub count : m.curr.len ≡ length (contained cmp spans curr next m.next)
    pub weighs : m.bytes ≡ weight m.next
    pub fewest : (v : Window) → Within (length next) v → admissible cmp spans bytes named hs curr next target v ≡ true → m.bytes ≤ weight v
    pub first : (v : Window) → Within (length next) v → admissible cmp spans bytes named hs curr next target v ≡ true → Shorter v m.next → m.bytes < weight v

  -- nothing is movable or admissible
  pub record Rests : Type 0 where
    pub stays : NoneMovable
    pub bars : NoneAdmissible

  -- what each answer says
  abbrev pub PickLaw : Option Pick → Type 0
  PickLaw (Some (Move w)) = Moves w
  PickLaw (Some (Merge m)) = Merges m
  PickLaw None = Rests

  -- no other answer keeps this law
  abbrev pub OnlyPick : Option Pick → Type 0
  OnlyPick r = (p : Option Pick) → PickLaw p → p ≡ r
