-- Inputs that were offered to a hart, and what becomes of them.
use Rattle.std.specs.Prelude.{ℕ, ◌≡◌, ◌≤◌, ◌++◌, true, false, not, List, map, filter}
use Rattle.std.specs.List.{AllZip}
use Rattle.input_log.specs.declared.Input.{Input}
use Rattle.input_log.specs.declared.WaitingInput.{WaitingInput}
use Rattle.input_log.specs.declared.offered.Offer.{Offer}
use Rattle.input_log.specs.Inputs.{is_bell}

-- it was given at this count, or is due at it
abbrev pub come : ℕ → Input → Offer
come count input = record { waits = false; count = count; input = input }

-- it waits
abbrev pub waiting : WaitingInput → Offer
waiting w = record { waits = true; count = w.not_before; input = w.input }

-- all that was offered to a hart, in its order: what it was given, what is due at this count, and what waits
abbrev pub all_offers : List (ℕ × Input) → ℕ → List Input → List WaitingInput → List Offer
all_offers given count due others = map (λ x. come x.0 x.1) given ++ (map (come count) due ++ map waiting others)

-- those that are no bells
abbrev pub but_bells : List Offer → List Offer
but_bells offers = filter (λ o. not (is_bell o.input)) offers

-- what became of an offer
pub record IsKept (old new : Offer) : Type 0 where
  pub same : new.input ≡ old.input
  -- it came at no lesser count than it was to
  pub timely : old.count ≤ new.count
  -- what waits now waits as it did
  pub waits : new.waits ≡ true → new ≡ old

-- what became of all: none is lost, made or put before another
abbrev pub AreKept : List Offer → List Offer → Type 0
AreKept old new = AllZip IsKept old new
