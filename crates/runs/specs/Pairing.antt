-- Tables that are equal but for keys, which pair.
use Rattle.std.specs.Prelude.{◌≡◌, ℕ, List, Some, None, Ok, Err, Option, Result}
use Rattle.refusals.specs.declared.refusal.Refusal.{Refusal}
use Rattle.keys.specs.declared.key_range.KeyRange.{KeyRange}
use Rattle.keys.specs.Pairing.{Both, TwinRange}
use Rattle.runs.specs.declared.table.Table.{Table}
use Rattle.runs.specs.declared.fresh.Fresh.{Fresh}
use Rattle.runs.specs.Run.{Part}

module _ {A B : Type 0} (R : A → B → Type 0) where
  -- two standing tables
  pub record Twin (t : Table A) (u : Table B) : Type 0 where
    pub number : t.number ≡ u.number
    pub level : t.level ≡ u.level
    pub run : t.run ≡ u.run
    pub range : TwinRange R t.range u.range
    pub size : t.size ≡ u.size
    pub created : t.created ≡ u.created
    pub linked : t.linked ≡ u.linked

  -- two fresh tables
  pub record Fellow (f : Fresh A) (g : Fresh B) : Type 0 where
    pub number : f.number ≡ g.number
    pub range : TwinRange R f.range g.range
    pub size : f.size ≡ g.size
    pub created : f.created ≡ g.created
    pub linked : f.linked ≡ g.linked

-- the stretches that two questions handed out: one place, and tables that pair; or one refusal
pub data TwinParts {T U : Type 0} (S : T → U → Type 0) : Result (Part T) Refusal → Result (Part U) Refusal → Type 0 where
  granted : {at : ℕ} {ts : List T} {us : List U} → Both S ts us → TwinParts S (Ok (record { place = at; tables = ts })) (Ok (record { place = at; tables = us }))
  refused : {e : Refusal} → TwinParts S (Err e) (Err e)

-- two spans pair, or there is none
pub data TwinSpans {A B : Type 0} (R : A → B → Type 0) : Option (KeyRange A) → Option (KeyRange B) → Type 0 where
  no_span : TwinSpans R None None
  a_span : {r : KeyRange A} {s : KeyRange B} → TwinRange R r s → TwinSpans R (Some r) (Some s)
