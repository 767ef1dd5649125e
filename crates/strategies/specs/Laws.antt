-- Major, range drop and FIFO keep the law, and say of what they name what is so.
-- Lemmas for a law that an impl owes, whose term can cite specs/ alone: they are proved, and nothing here has to be believed.
use Rattle.std.specs.Prelude.{ℕ, Bool, true, cond, not, ◌&&◌, List, nat_lt}
use Rattle.std.specs.List.{list_any}
use Rattle.std.specs.declared.cmp.Ordering.{Ordering}
use Rattle.std.proofs.Common.{arith}
use Rattle.std.proofs.lemmas.Bool.{true≢false, cond_both}
use Rattle.keys.specs.declared.bounds.OwnedBounds.{OwnedBounds}
use Rattle.runs.specs.declared.table.Table.{Table}
use Rattle.sheets.specs.Level.{in_level, runs}
use Rattle.sheets.specs.Sound.{Sound}
use Rattle.sheets.specs.Tables.{named}
use Rattle.strategies.specs.declared.choice.Kind.TheVariants.{Merge, Drop}
use Rattle.strategies.specs.Answer.{Answer, nothing, declines, naming}
use Rattle.strategies.specs.DropRange.{in_bounds, drop_range}
use Rattle.strategies.specs.Fifo.{hidden_first, left_over, goes, fifo}
use Rattle.strategies.specs.Major.{major}
use Rattle.strategies.specs.Strategy.{LawfulAnswer, Law}
use Rattle.strategies.specs.NamingLaws.{ToldAnswer, merge_moves, naming_told, naming_lawful, drop_lawful}

module _ {K : Type 0} (cmp : K → K → Ordering) where
  -- what holds of doing nothing, of refusing, and of a drop of some tables, holds of these three
  module _ (P : Answer → Type 0) (rests : P nothing) where
    either : (b : Bool) (a : Answer) → P a → P (cond b nothing a)
    either b a h = cond_both b nothing a P (λ e. rests) (λ e. h)

    major_so : (target : ℕ) (ts : List (Table K)) (hs : List ℕ) → P (naming Merge 6 6 target (λ t. true) ts) → P (major target ts hs)
    major_so target ts hs h = either (list_any (named hs) ts) _ h

    module _ (ts : List (Table K)) (drops : (p : Table K → Bool) → P (naming Drop 0 0 0 p ts)) where
      drop_range_so : (bounds : OwnedBounds K) (hs : List ℕ) → P (drop_range cmp bounds ts hs)
      drop_range_so bounds hs = either (list_any (λ t. in_bounds cmp bounds t && named hs t) ts) _ (drops (in_bounds cmp bounds))

      fifo_so : ((d : _) → P (declines d)) → (limit ttl blobs clock : ℕ) (hs : List ℕ) → P (fifo limit ttl blobs clock ts hs)
      fifo_so refuses limit ttl blobs clock hs =
          either (not (list_any (in_level 0) ts)) _
          (cond_both (nat_lt 1 (runs ts)) _ _ P (λ e. refuses _)
          (λ e. cond_both (list_any (hidden_first hs) ts) _ _ P (λ f. refuses _)
          (λ f. cond_both (list_any p ts) (naming Drop 0 0 0 p ts) _ P (λ i. drops p) (λ i. rests))))
        where
          p : Table K → Bool
          p = goes ttl clock limit (left_over ttl clock blobs ts) ts

  pub major_lawful : (target : ℕ) → Law cmp (major target)
  major_lawful target room blobs ts hs s =
      major_so (LawfulAnswer cmp ts) tt target ts hs
      (naming_lawful cmp s.ordered.numbers Merge 6 6 target (λ t. true) (λ g. (omega arith, omega arith)) (λ g u m e x. absurd (true≢false x)) (λ e. merge_moves _ e))

  pub drop_range_lawful : (bounds : OwnedBounds K) → Law cmp (drop_range cmp bounds)
  drop_range_lawful bounds room blobs ts hs s = drop_range_so (LawfulAnswer cmp ts) tt ts (drop_lawful cmp s.ordered.numbers) bounds hs

  pub fifo_lawful : (limit ttl blob_total clock : ℕ) → Law cmp (fifo limit ttl blob_total clock)
  fifo_lawful limit ttl blob_total clock room blobs ts hs s = fifo_so (LawfulAnswer cmp ts) tt ts (drop_lawful cmp s.ordered.numbers) (λ d. tt) limit ttl blob_total clock hs

  -- ---- numbers in sheet order, and their bytes
  module _ {room standing blobs : ℕ} {ts : List (Table K)} (s : Sound cmp room standing blobs ts) where
    drop_told : (p : Table K → Bool) → ToldAnswer cmp ts (naming Drop 0 0 0 p ts)
    drop_told p = naming_told cmp s.ordered.numbers Drop 0 0 0 p

    pub major_told : (target : ℕ) (hs : List ℕ) → ToldAnswer cmp ts (major target ts hs)
    major_told target hs = major_so (ToldAnswer cmp ts) tt target ts hs (naming_told cmp s.ordered.numbers Merge 6 6 target (λ t. true))

    pub drop_range_told : (bounds : OwnedBounds K) (hs : List ℕ) → ToldAnswer cmp ts (drop_range cmp bounds ts hs)
    drop_range_told bounds hs = drop_range_so (ToldAnswer cmp ts) tt ts drop_told bounds hs

    pub fifo_told : (limit ttl blob_total clock : ℕ) (hs : List ℕ) → ToldAnswer cmp ts (fifo limit ttl blob_total clock ts hs)
    fifo_told limit ttl blob_total clock hs = fifo_so (ToldAnswer cmp ts) tt ts drop_told (λ d. tt) limit ttl blob_total clock hs
