-- Why events are refused.
use Rattle.std.specs.Prelude.{ℕ}
use Rattle.page_book.specs.declared.answers.BookFault.{BookFault}
use Rattle.page_book.specs.declared.answers.BookFault.TheVariants.{Leased, Halted, EdgeOpen, AtLimit, Foreign, Memory as NoBookMemory}
use Rattle.go_live.specs.declared.fault.LiveFault.{LiveFault}
use Rattle.go_live.specs.declared.fault.LiveFault.TheVariants.{TooFewStores, TermNotNew, Replay, Memory as NoLiveMemory}
use Rattle.failover_world.specs.declared.fault.WorldFault.{WorldFault}
use Rattle.failover_world.specs.declared.fault.WorldFault.TheVariants.{NoPrimary, NoKeeper, NoFrame, NotStopped, Step, Live, Ack, Memory}

abbrev pub fault_number : WorldFault → ℕ
fault_number NoPrimary = 1
fault_number NoKeeper = 2
fault_number NoFrame = 3
fault_number NotStopped = 4
fault_number (Step fault) = 5
fault_number (Live fault) = 6
fault_number (Ack fault) = 7
fault_number Memory = 8

-- what a book's fault is here
abbrev pub fault_of_book : BookFault → WorldFault
fault_of_book Leased = Step Leased
fault_of_book Halted = Step Halted
fault_of_book EdgeOpen = Step EdgeOpen
fault_of_book AtLimit = Step AtLimit
fault_of_book Foreign = Step Foreign
fault_of_book NoBookMemory = Memory

-- what a fault of going live is here
abbrev pub fault_of_live : LiveFault → WorldFault
fault_of_live TooFewStores = Live TooFewStores
fault_of_live TermNotNew = Live TermNotNew
fault_of_live (Replay fault) = Live (Replay fault)
fault_of_live NoLiveMemory = Memory
