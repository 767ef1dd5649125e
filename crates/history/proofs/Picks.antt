-- Every pick of every list of calls is as leveled promises.
use Rattle.std.proofs.Common.{List, [], ◌∷◌, Ordering}
use Rattle.leveled.proofs.Picks.{leveled_picks}
use Rattle.books.specs.Deed.{Deed, perform}
use Rattle.books.specs.State.{State}
use Rattle.history.specs.Picks.{PicksWell, EachPicksWell, ListsPickWell}

module _ {K : Type 0} (cmp : K → K → Ordering) where
  picks_well : (st : State K) → PicksWell cmp st
  picks_well st s hidden = leveled_picks cmp s st.tables hidden

  each_picks_well : (ds : List (Deed K)) (st : State K) → EachPicksWell cmp ds st
  each_picks_well [] st = picks_well st
  each_picks_well (d ∷ ds) st = (picks_well st, each_picks_well ds (perform cmp d st).0)

  pub lists_pick_well : ListsPickWell cmp
  lists_pick_well ds st k s = each_picks_well ds st
