-- The limits of the settings, one by one.
use Rattle.std.proofs.Common.{◌≡◌, ◌^◌, ◌<◌, ◌≤◌, Bool, true, false, ◌&&◌, T, leb, sym, subst, leb→le}
use Rattle.levels.specs.declared.settings.Settings.{Settings}
use Rattle.levels.specs.Settings.{ratios_of, all_allowed, in_limits}

pub record Limits (s : Settings) : Type 0 where
  pub some_size : 0 < s.target_size
  pub size_most : s.target_size ≤ 2 ^ 40
  pub some_threshold : 0 < s.threshold
  pub threshold_most : s.threshold ≤ 255
  pub given_most : s.given ≤ 5
  pub ratios : T (all_allowed (ratios_of s))

pub limits : (s : Settings) → in_limits s ≡ true → Limits s
limits s h =
    go (leb 1 s.target_size) (leb s.target_size (2 ^ 40)) (leb 1 s.threshold) (leb s.threshold 255) (leb s.given 5)
    (leb→le 1 s.target_size) (leb→le s.target_size (2 ^ 40)) (leb→le 1 s.threshold) (leb→le s.threshold 255) (leb→le s.given 5) (subst T (sym h) tt)
  where
    go : (a b c d e : Bool) → (T a → 0 < s.target_size) → (T b → s.target_size ≤ 2 ^ 40) → (T c → 0 < s.threshold) → (T d → s.threshold ≤ 255) → (T e → s.given ≤ 5)
        → T (a && b && c && d && e && all_allowed (ratios_of s)) → Limits s
    go true true true true true f g i j k t = record { some_size = f tt; size_most = g tt; some_threshold = i tt; threshold_most = j tt; given_most = k tt; ratios = t }
    go false b c d e f g i j k t = absurd t
    go true false c d e f g i j k t = absurd t
    go true true false d e f g i j k t = absurd t
    go true true true false e f g i j k t = absurd t
    go true true true true false f g i j k t = absurd t
