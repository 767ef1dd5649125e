-- What the promises give on small layouts: each is used where it says something.
use Rattle.std.proofs.Common.{◌≡◌, ℕ, true, List, [], ◌∷◌, inl, inr, sym, subst, refl, rules}
use Rattle.std.specs.Cmp.Rules.{comparing}
use lib.Ieee.{span, climb, size, odd, units, round, mul, div, lt, le, of_int, to_unsigned}
use Rattle.keys.specs.declared.byte_key.ByteKey.{ByteKey}
use Rattle.keys.specs.declared.stop_key.StopKey.{StopKey}
use Rattle.keys.specs.KeyKind.{Laws}
use Rattle.keys.specs.Pairing.{nil, cons, CompareAlike}
use Rattle.keys.specs.ByteKey.{byte_ranks}
use Rattle.keys.specs.StopKey.{stop_ranks}
use Rattle.levels.specs.Scores.{winner}
use Rattle.levels.specs.Targets.{grown}
use Rattle.sheets.specs.Level.{level_of}
use Rattle.sheets.specs.Members.{In, here, later, Every}
use Rattle.sheets.proofs.Each.{none_in, in_cases}
use Rattle.runs.specs.Pairing.{Fellow}
use Rattle.windows.specs.SliceWindows.{win, from_left, growing_from, shrinking_from}
use Rattle.picks.specs.declared.merge.Merging.{Merging}
use Rattle.picks.specs.Merge.{cheaper, cheapest_of, cost, merging, admissible}
use Rattle.picks.specs.Movable.{first_of, movable}
use Rattle.picks.specs.PickLaw.{Merges}
use Rattle.leveled.specs.Laws.{leveled_lawful}
use Rattle.leveled.specs.Leveled.{score_of}
use Rattle.leveled.specs.Promise.{ComesTo}
use Rattle.leveled.proofs.Alike.{leveled_alike}
use Rattle.books.specs.Booked.{SoundState, state_ok}
use Rattle.books.specs.Deed.{giving}
use Rattle.books.specs.Pairing.{twin, landings, bookings, closings}
use Rattle.books.proofs.BookTests.{state_from_test}
use Rattle.history.specs.Picks.{ListsPickWell}
use Rattle.layouts.specs.Layouts.{plain, deep, abc, idle}
use Rattle.layouts.specs.Promises.{alone, three_stand, under_stops, under_bytes, day, day_in_bytes, idle_in_bytes, Promised}

stop_laws : Laws stop_ranks
stop_laws = Prim.search (comparing, rules)

-- ---- picks
comes_1 : ComesTo stop_ranks plain (deep 1) (7 ∷ []) 1
unfolding score_of winner grown lt le of_int round units span climb size odd mul div to_unsigned
comes_1 = record { limits = refl; stays = refl; holds = refl; wins = refl }

comes_2 : ComesTo stop_ranks plain (deep 2) (7 ∷ []) 2
unfolding score_of winner grown lt le of_int round units span climb size odd mul div to_unsigned
comes_2 = record { limits = refl; stays = refl; holds = refl; wins = refl }

comes_3 : ComesTo stop_ranks plain (deep 3) (7 ∷ []) 3
unfolding score_of winner grown lt le of_int round units span climb size odd mul div to_unsigned
comes_3 = record { limits = refl; stays = refl; holds = refl; wins = refl }

comes_4 : ComesTo stop_ranks plain (deep 4) (7 ∷ []) 4
unfolding score_of winner grown lt le of_int round units span climb size odd mul div to_unsigned
comes_4 = record { limits = refl; stays = refl; holds = refl; wins = refl }

comes_5 : ComesTo stop_ranks plain (deep 5) (7 ∷ []) 5
unfolding score_of winner grown lt le of_int round units span climb size odd mul div to_unsigned
comes_5 = record { limits = refl; stays = refl; holds = refl; wins = refl }

comes_abc : ComesTo stop_ranks plain abc [] 1
unfolding score_of winner grown lt le of_int round units span climb size odd mul div to_unsigned
comes_abc = record { limits = refl; stays = refl; holds = refl; wins = refl }

sound_alone : (n : ℕ) → state_ok stop_ranks (alone n) ≡ true → SoundState stop_ranks (alone n)
sound_alone n h = state_from_test stop_laws (alone n) refl refl h

sound_three : SoundState stop_ranks three_stand
sound_three = state_from_test stop_laws three_stand refl refl refl

-- the merge of a, b and c
abbrev all_three : Merging
all_three = record { next = win 0 2; curr = win 0 1; bytes = 610 }

merges : ListsPickWell stop_ranks → Merges stop_ranks (λ t. t.range) (λ t. t.size) (λ t. t.number) [] (level_of 1 abc) (level_of 2 abc) 100 all_three
unfolding movable first_of shrinking_from from_left growing_from cheaper cheapest_of admissible cost merging
merges p = (p [] three_stand tt sound_three plain [] 0 comes_abc).law

-- ---- alike
abbrev pairs : List (StopKey × ByteKey)
pairs = (under_stops.range.min, under_bytes.range.min) ∷ (under_stops.range.max, under_bytes.range.max) ∷ []

of_two : {X : Type 0} (P : X → Type 0) (a b : X) → P a → P b → Every P (a ∷ b ∷ [])
of_two P a b p q x m = elim (in_cases m) [ inl e ↦ subst P (sym e) p | inr n ↦ elim (in_cases n) [ inl e ↦ subst P (sym e) q | inr k ↦ absurd (none_in k) ] ]

abbrev Ranks : StopKey × ByteKey → StopKey × ByteKey → Type 0
Ranks x y = stop_ranks x.0 y.0 ≡ byte_ranks x.1 y.1

ranks_alike : Every (λ x. Every (Ranks x) pairs) pairs
ranks_alike =
    of_two (λ x. Every (Ranks x) pairs) _ _
    (of_two (Ranks (under_stops.range.min, under_bytes.range.min)) _ _ refl refl)
    (of_two (Ranks (under_stops.range.max, under_bytes.range.max)) _ _ refl refl)

abbrev Pair : StopKey → ByteKey → Type 0
Pair a b = In (a, b) pairs

compare_alike : CompareAlike stop_ranks byte_ranks Pair
compare_alike a c b d m n = ranks_alike (a, b) m (c, d) n

fellows : Fellow Pair under_stops under_bytes
fellows = record { number = refl; range = record { min = here refl; max = later (here refl) }; size = refl; created = refl; linked = refl }

-- ---- all
pub promised : Promised
promised =
    record {
      picks = λ p. (
        p [] (alone 1) tt (sound_alone 1 refl) plain (7 ∷ []) 0 comes_1,
        (
          p [] (alone 2) tt (sound_alone 2 refl) plain (7 ∷ []) 1 comes_2,
          (
            p [] (alone 3) tt (sound_alone 3 refl) plain (7 ∷ []) 2 comes_3,
            (
              p [] (alone 4) tt (sound_alone 4 refl) plain (7 ∷ []) 3 comes_4,
              ((p (giving 3 ∷ []) (alone 5) (tt, tt) (sound_alone 5 refl)).1 plain (7 ∷ []) 4 comes_5, tt),
            ),
          ),
        ),
      );
      fewest = λ p v w e. (merges p).fewest v w e;
      sound = λ p. let s = (p day idle (tt, (leveled_lawful stop_laws plain, (tt, (tt, tt)))) (state_from_test stop_laws idle refl refl refl)).2.2.2 in (s.2, s.1);
      alike = λ p. (
          p pairs compare_alike day day_in_bytes idle idle_in_bytes
          (cons (landings fellows) (cons (bookings (λ ts us hidden w. leveled_alike stop_ranks byte_ranks Pair compare_alike plain hidden w) refl) (cons (closings nil) (cons (landings fellows) nil))))
          (twin nil)
          ).1;
    }
