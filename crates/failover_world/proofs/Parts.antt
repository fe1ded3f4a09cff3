-- The parts of the world still fit together.
use Rattle.std.proofs.Common.{◌≡◌, ℕ, ◌≤◌, Bool, List, length, length-set, slice_set, Option, ◌∙◌}
use Rattle.ft_types.specs.Counts.{count_at}
use Rattle.page_book.specs.Books.{BookView}
use Rattle.book_modes.specs.Recordings.{RecordingView}
use Rattle.hart_lease.specs.Runs.{counts_of}
use Rattle.fragment_codec.specs.declared.frame.Frame.{Frame}
use Rattle.log_join.specs.Stores.{StoreView}
use Rattle.lease_rounds.specs.Running.{IsIdle}
use Rattle.term_gate.specs.TermGates.{TermGateView}
use Rattle.primary.specs.declared.released.Released.{Released}
use Rattle.primary.specs.declared.granted.Primary.{Primary}
use Rattle.failover_world.specs.Worlds.{WorldView}
use Rattle.primary.specs.Gating.{AreOffered}
use Rattle.failover_world.specs.machinery.Tied.{AreParts}
use Rattle.failover_world.proofs.Ties.{with_book}

module _ (v : WorldView) (is : AreParts v) where
  -- frames and outputs are counted nowhere
  pub with_rows : (runs : Bool) (stopped : List Primary) (sent : List Frame) (released : List Released) →
      AreParts (record v { runs = runs; stopped = stopped; sent = sent; released = released })
  with_rows runs stopped sent released =
      record {
        guest = is.guest;
        quorum = is.quorum;
        stores = is.stores;
        idle = is.idle;
        within = is.within;
        harts = is.harts;
        reached = is.reached;
        gate_term = is.gate_term;
        gate_keepers = is.gate_keepers;
        gate_need = is.gate_need;
        gate_harts = is.gate_harts;
        acked = is.acked;
        offered = is.offered;
      }

  -- a keeper's store may be another
  pub with_store : (keeper : ℕ) (x : Option StoreView) → AreParts (record v { stores = slice_set v.stores keeper x })
  with_store keeper x =
      record {
        guest = is.guest;
        quorum = is.quorum;
        stores = length-set v.stores keeper x ∙ is.stores;
        idle = is.idle;
        within = is.within;
        harts = is.harts;
        reached = is.reached;
        gate_term = is.gate_term;
        gate_keepers = is.gate_keepers;
        gate_need = is.gate_need;
        gate_harts = is.gate_harts;
        acked = is.acked;
        offered = is.offered;
      }

  -- so may be what the gate has been told
  pub with_gate : (gate : TermGateView) → gate.gate.term ≡ v.gate.gate.term → gate.gate.keepers ≡ v.gate.gate.keepers → gate.gate.need ≡ v.gate.gate.need →
      gate.harts ≡ v.gate.harts → length gate.acked ≡ length v.gate.acked → AreOffered gate.gate v.primary.book.machine →
      AreParts (record v { gate = gate })
  with_gate gate term keepers need harts acked offered =
      record {
        guest = is.guest;
        quorum = is.quorum;
        stores = is.stores;
        idle = is.idle;
        within = is.within;
        harts = is.harts;
        reached = is.reached;
        gate_term = term ∙ is.gate_term;
        gate_keepers = keepers ∙ is.gate_keepers;
        gate_need = need ∙ is.gate_need;
        gate_harts = harts ∙ is.gate_harts;
        acked = acked ∙ is.acked;
        offered = offered;
      }

  -- and the primary's book
  pub with_new_book : (c : BookView RecordingView) → IsIdle c → ((hart : ℕ) → counts_of c.machine hart ≤ count_at c.mode.limits hart) →
      length c.machine.harts ≡ length v.primary.book.machine.harts → AreOffered v.gate.gate c.machine → AreParts (with_book v c)
  with_new_book c idle within harts offered =
      record {
        guest = is.guest;
        quorum = is.quorum;
        stores = is.stores;
        idle = idle;
        within = within;
        harts = harts ∙ is.harts;
        reached = is.reached;
        gate_term = is.gate_term;
        gate_keepers = is.gate_keepers;
        gate_need = is.gate_need;
        gate_harts = is.gate_harts;
        acked = is.acked;
        offered = offered;
      }
