-- What a keeper holds.
use Rattle.log_join.specs.Stores.{StoreView}
use Rattle.pair.specs.declared.holding.Holding.{Holding}
use Rattle.pair.specs.declared.holding.Holding.TheVariants.{Cold, Warm}

-- the store in it
abbrev pub store_in : Holding → StoreView
store_in (Cold store) = store
store_in (Warm backup) = backup.store
