use Rattle.failover_world.proofs.keepers.keeper_at.Goals as goal

pub returns-clause-there : goal.returns-clause-there
returns-clause-there c = (c.in_ok-_store._store.now, c.in_ok-_store.ensures.some)
