-- A strategy by its name, and its settings behind it.
use Rattle.std.proofs.Common.{◌≡◌, ℕ, List, ◌∷◌, Ok, Err, Result, codes, refl, sym, ap, ◌∙◌, subst}
use Rattle.refusals.specs.declared.refusal.Refusal.{Refusal}
use Rattle.levels.specs.declared.settings.Settings.{Settings as LeveledSettings}
use Rattle.strategies.specs.declared.fifo.FifoSettings.{FifoSettings}
use Rattle.strategies.specs.declared.major.MajorSettings.{MajorSettings}
use Rattle.standard.specs.declared.standard.Settings.{Settings}
use Rattle.standard.specs.declared.standard.Settings.TheVariants.{Leveled, Fifo, Major, DropRange}
use Rattle.texts.specs.Reading.{Plain, By}
use Rattle.scripts.specs.Strategy.{SaysLeveled, SaysFifo, SaysMajor, SaysBounds, SaysSettings, SaysStrategy, strategy_name}

module _ {K : Type 0} (says : List ℕ → Result K Refusal → Type 0) (ws : List (List ℕ)) {w : List ℕ} {rest : List (List ℕ)} (read : ws ≡ w ∷ rest) where
  settings_there : (r : Result (Settings K) Refusal) → SaysStrategy says ws r → SaysSettings says rest r
  settings_there r said =
      let same : said.behind ≡ rest = cc (read, said.spelt) in
      subst (λ l. SaysSettings says l r) same said.settings

  name_there : (r : Result (Settings K) Refusal) → SaysStrategy says ws r → strategy_name r ≡ w
  name_there r said = cc (read, said.spelt)

  pub leveled_there : w ≡ codes "leveled" → (r : Result (Settings K) Refusal) → SaysStrategy says ws r → (s : Result LeveledSettings Refusal) × Plain (SaysLeveled rest) s
  leveled_there n (Ok (Leveled s)) said = (Ok s, settings_there (Ok (Leveled s)) said)
  leveled_there n (Ok (Fifo s)) said = absurd cc (n, name_there (Ok (Fifo s)) said)
  leveled_there n (Ok (Major s)) said = absurd cc (n, name_there (Ok (Major s)) said)
  leveled_there n (Ok (DropRange s)) said = absurd cc (n, name_there (Ok (DropRange s)) said)
  leveled_there n (Err refusal) said = absurd cc (n, name_there (Err refusal) said)

  pub fifo_there : w ≡ codes "fifo" → (r : Result (Settings K) Refusal) → SaysStrategy says ws r → (s : Result FifoSettings Refusal) × Plain (SaysFifo rest) s
  fifo_there n (Ok (Leveled s)) said = absurd cc (n, name_there (Ok (Leveled s)) said)
  fifo_there n (Ok (Fifo s)) said = (Ok s, settings_there (Ok (Fifo s)) said)
  fifo_there n (Ok (Major s)) said = absurd cc (n, name_there (Ok (Major s)) said)
  fifo_there n (Ok (DropRange s)) said = absurd cc (n, name_there (Ok (DropRange s)) said)
  fifo_there n (Err refusal) said = absurd cc (n, name_there (Err refusal) said)

  pub major_there : w ≡ codes "major" → (r : Result (Settings K) Refusal) → SaysStrategy says ws r → (s : Result MajorSettings Refusal) × Plain (SaysMajor rest) s
  major_there n (Ok (Leveled s)) said = absurd cc (n, name_there (Ok (Leveled s)) said)
  major_there n (Ok (Fifo s)) said = absurd cc (n, name_there (Ok (Fifo s)) said)
  major_there n (Ok (Major s)) said = (Ok s, settings_there (Ok (Major s)) said)
  major_there n (Ok (DropRange s)) said = absurd cc (n, name_there (Ok (DropRange s)) said)
  major_there n (Err refusal) said = absurd cc (n, name_there (Err refusal) said)

  pub bounds_there : w ≡ codes "drop-range" → (r : Result (Settings K) Refusal) → SaysStrategy says ws r → By DropRange (SaysBounds says rest) r
  bounds_there n (Ok (Leveled s)) said = absurd cc (n, name_there (Ok (Leveled s)) said)
  bounds_there n (Ok (Fifo s)) said = absurd cc (n, name_there (Ok (Fifo s)) said)
  bounds_there n (Ok (Major s)) said = absurd cc (n, name_there (Ok (Major s)) said)
  bounds_there n (Ok (DropRange bounds)) said = (Ok bounds, settings_there (Ok (DropRange bounds)) said, refl)
  bounds_there n (Err refusal) said = (Err refusal, settings_there (Err refusal) said, refl)

  pub drop_range : w ≡ codes "drop-range" → (r : Result (Settings K) Refusal) → By DropRange (SaysBounds says rest) r → SaysStrategy says ws r
  drop_range n r (Ok bounds, said, is) = subst (SaysStrategy says ws) (sym is) (record { behind = rest; spelt = read ∙ ap (λ v. v ∷ rest) n; settings = said })
  drop_range n r (Err refusal, said, is) = subst (SaysStrategy says ws) (sym is) (record { behind = rest; spelt = read ∙ ap (λ v. v ∷ rest) n; settings = said })
