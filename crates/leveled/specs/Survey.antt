-- What the steps of leveled look at: the settings, the standing tables and the hidden numbers of a survey.
use Rattle.std.specs.Prelude.{ℕ, List}
use Rattle.levels.specs.declared.settings.Settings.{Settings}
use Rattle.runs.specs.declared.table.Table.{Table}
use Rattle.leveled.specs.declared.survey.Survey.{Survey}

module _ {K : Type 0} {k : _} where
  -- the settings
  abbrev pub set_to : Survey K k → Settings
  set_to v = v.settings.now

  -- the standing tables
  abbrev pub standing : Survey K k → List (Table K)
  standing v = v.tables.now

  -- the hidden numbers
  abbrev pub hides : Survey K k → List ℕ
  hides v = v.hidden_set.now
