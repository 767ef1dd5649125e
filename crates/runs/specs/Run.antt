-- What is asked of a run: a list of what has a range, `spans`, over an order of the keys, `cmp`.
use Rattle.std.specs.Prelude.{ℕ, Bool, true, cond, not, ◌&&◌, List, [], ◌∷◌, Some, None, Ok, Err, fold, count_by, filter, Option, Result}
use Rattle.std.specs.declared.cmp.Ordering.{Ordering}
use Rattle.std.specs.Ordering.{is_lt}
use Rattle.refusals.specs.declared.refusal.Refusal.{Refusal}
use Rattle.refusals.specs.declared.refusal.Refusal.TheVariants.{NotSound}
use Rattle.keys.specs.declared.key_range.KeyRange.{KeyRange}
use Rattle.keys.specs.KeyRange.{meets, inside, wider}
use Rattle.runs.specs.declared.run.Stretch.{Stretch}

-- some tables of a run that follow one another, and how many stand before them
pub record Part (T : Type 0) : Type 0 where
  pub place : ℕ
  pub tables : List T

-- what a question handed out, with the tables in place of the loan
abbrev pub shown : {T : Type 0} → Result (Stretch T) Refusal → Result (Part T) Refusal
shown (Ok s) = Ok (record { place = s.place; tables = s.tables.now })
shown (Err e) = Err e

module _ {K T : Type 0} (cmp : K → K → Ordering) (spans : T → KeyRange K) where
  -- the first table, if any, begins after the key
  abbrev pub apart : K → List T → Bool
  apart key [] = true
  apart key (u ∷ us) = is_lt (cmp key (spans u).min)

  -- a run: no max is before its min, and each table ends before the next begins
  abbrev pub sorted : List T → Bool
  sorted [] = true
  sorted (t ∷ ts) = not (is_lt (cmp (spans t).max (spans t).min)) && (apart (spans t).max ts && sorted ts)

  -- the tables that meet the range, behind those that end before it begins
  abbrev pub overlapping : KeyRange K → List T → Result (Part T) Refusal
  overlapping range ts =
      cond (sorted ts)
      (Ok (record { place = count_by (λ t. is_lt (cmp (spans t).max range.min)) ts; tables = filter (λ t. meets cmp (spans t) range) ts }))
      (Err NotSound)

  -- the tables inside the range, behind those that begin before it does
  abbrev pub contained : KeyRange K → List T → Result (Part T) Refusal
  contained range ts =
      cond (sorted ts)
      (Ok (record { place = count_by (λ t. is_lt (cmp (spans t).min range.min)) ts; tables = filter (λ t. inside cmp range (spans t)) ts }))
      (Err NotSound)

  -- the span of a range and some tables
  abbrev pub widened : KeyRange K → List T → KeyRange K
  widened range ts = fold (λ r t. wider cmp r (spans t)) range ts

  -- the span of some tables runs from the least min to the greatest max; no tables have none
  abbrev pub span_of : List T → Option (KeyRange K)
  span_of [] = None
  span_of (t ∷ ts) = Some (widened (spans t) ts)

  -- the span of a run
  abbrev pub aggregated : List T → Result (Option (KeyRange K)) Refusal
  aggregated ts = cond (sorted ts) (Ok (span_of ts)) (Err NotSound)
