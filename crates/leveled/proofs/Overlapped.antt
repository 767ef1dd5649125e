-- What a level has that meets level 0's span, as it is cut out of the level.
use Rattle.std.proofs.Common.{◌≡◌, ℕ, List, [], Some, None, filter, Ordering, sym, refl, ap, ◌∙◌}
use Rattle.keys.specs.declared.key_range.KeyRange.{KeyRange}
use Rattle.keys.specs.KeyRange.{meets}
use Rattle.runs.specs.declared.table.Table.{Table}
use Rattle.runs.specs.Run.{span_of}
use Rattle.picks.specs.Movable.{meets_span}
use Rattle.levels.specs.declared.settings.Settings.{Settings}
use Rattle.sheets.specs.Level.{level_of}
use Rattle.leveled.specs.Leveled.{met}
use Rattle.strategies.specs.NamingParts.{kept_none}
use Rattle.leveled.specs.Stretches.{met_is}

module _ {K : Type 0} (cmp : K → K → Ordering) (s : Settings) (ts : List (Table K)) (hs : List ℕ) (l : ℕ) where
  -- an empty level 0 meets nothing
  pub meets_none : None ≡ span_of cmp (λ t. t.range) (level_of 0 ts) → [] ≡ filter (met cmp s ts hs l) ts
  meets_none e =
      sym (kept_none (meets_span cmp (λ t. t.range) None) (level_of l ts) (λ t m. refl)) ∙ ap (λ o. filter (meets_span cmp (λ t. t.range) o) (level_of l ts)) e ∙ sym (met_is cmp s ts hs l)

  -- what of the level meets the span of level 0
  pub meets_span_of : (span : KeyRange K) (run us : List (Table K)) → Some span ≡ span_of cmp (λ t. t.range) (level_of 0 ts) → run ≡ level_of l ts
      → us ≡ filter (λ t. meets cmp t.range span) run → us ≡ filter (met cmp s ts hs l) ts
  meets_span_of span run us is of kept =
      kept
      ∙ ap (filter (meets_span cmp (λ t. t.range) (Some span))) of
      ∙ ap (λ o. filter (meets_span cmp (λ t. t.range) o) (level_of l ts)) is
      ∙ sym (met_is cmp s ts hs l)
