-- The answers on small layouts, by computation.
use Rattle.std.proofs.Common.{refl}
use lib.Ieee.{span, climb, size, odd, units, round, mul, div, lt, le, of_int, to_unsigned}
use Rattle.levels.specs.Scores.{winner}
use Rattle.levels.specs.Targets.{grown}
use Rattle.windows.specs.SliceWindows.{from_left, growing_from, shrinking_from}
use Rattle.picks.specs.Merge.{cheaper, cheapest_of, cost, merging, admissible}
use Rattle.picks.specs.Movable.{first_of, movable}
use Rattle.leveled.specs.Leveled.{score_of}
use Rattle.layouts.specs.Layouts.{numbered_from, Layouts}

pub layouts : Layouts
unfolding score_of winner grown lt le of_int round units span climb size odd mul div to_unsigned movable first_of shrinking_from from_left growing_from cheaper cheapest_of admissible cost merging numbered_from
layouts =
    record {
      sound = refl;
      target_1 = refl;
      target_2 = refl;
      target_3 = refl;
      empty = refl;
      empty_major = refl;
      sinks_5 = refl;
      sinks_0 = refl;
      two_runs = refl;
      holds_400 = refl;
      moves_401 = refl;
      merges_abc = refl;
      moves_d = refl;
      moves_1 = refl;
      moves_2 = refl;
      moves_3 = refl;
      moves_4 = refl;
      moves_5 = refl;
      holds_6 = refl;
      limit_100 = refl;
      limit_99 = refl;
      tie = refl;
      expires = refl;
      lives = refl;
      books_sound = refl;
      books_none = refl;
      books_256 = refl;
      books_257 = refl;
      names_d = refl;
      books_d = refl;
    }
