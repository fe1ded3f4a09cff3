-- Stores that honest frames came to.
use Rattle.std.proofs.Common.{List}
use Rattle.interleaving.specs.Machine.{System}
use Rattle.input_log.specs.declared.Input.{Input}
use Rattle.log_join.proofs.Families.{joins_honest, honest_gather}
use Rattle.hart_replay.specs.Laws.{HonestFramesGather, HonestStoresJoin}

module _ {Hart Page : Type 0} (system : System Hart Page (List Input)) where
  pub frames_gather : HonestFramesGather system
  frames_gather boot history guest frames store gathers honest =
      record { is_history = honest.is_history; honest = honest_gather _ history guest frames store gathers honest.of_family }

  pub stores_join : HonestStoresJoin system
  stores_join boot history a b c join one two =
      record { is_history = one.is_history; honest = (joins_honest _ history a b c one.honest two.honest join).honest }
