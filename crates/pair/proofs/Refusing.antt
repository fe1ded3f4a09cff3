-- Why no primary goes live from what all keepers hold.
use Rattle.std.proofs.Common.{◌≡◌, ◌≢◌, ◌<◌, ◌≤◌, ◌+◌, ◌-◌, ◌∙◌, ◌⊎◌, ⊎_elim, ℕ, suc, List, ◌∷◌, ap, inl, inr, refl, subst, sym, arith}
use Rattle.std.specs.List.{Any, range_with_len}
use Rattle.log_join.specs.Stores.{StoreView}
use Rattle.guest_image.specs.Image.{ImageContents, guest_of}
use Rattle.hart_replay.specs.KeepingUp.{IsFaultOfStore}
use Rattle.hart_replay.specs.declared.fault.ReplayFault.{ReplayFault}
use Rattle.hart_replay.specs.declared.fault.ReplayFault.TheVariants.{Cyclic, HaltedInside, OtherGuest, Memory as NoMemory}
use Rattle.go_live.specs.declared.fault.LiveFault.{LiveFault}
use Rattle.go_live.specs.declared.fault.LiveFault.TheVariants.{TooFewStores, TermNotNew, Replay, Memory}
use Rattle.go_live.specs.Faults.{IfReplay, live_fault_of}
use Rattle.go_live.specs.Lives.{LeadNowhere}
use Rattle.go_live.specs.Quorums.{distinct_below, IsOld}
use Rattle.pair.specs.Warm.{IsRefused, IsReplayFault}
use Rattle.pair.proofs.Numbers.{all_differ}

-- want of memory
pub refused_memory : (image : ImageContents) (stores : List StoreView) → IsRefused image stores Memory
refused_memory image stores = record { enough = λ is. cc; not_new = λ is. absurd (cc); nowhere = tt }

-- what the first of them tells leads nowhere
pub refused_first : (image : ImageContents) (first : StoreView) (others : List StoreView) (why : ReplayFault) → IsFaultOfStore image first why →
    IsRefused image (first ∷ others) (live_fault_of why)
refused_first image first others (Cyclic counts) is = record { enough = λ e. cc; not_new = λ e. absurd (cc); nowhere = inl is }
refused_first image first others (HaltedInside hart count) is = record { enough = λ e. cc; not_new = λ e. absurd (cc); nowhere = inl is }
refused_first image first others OtherGuest is = record { enough = λ e. cc; not_new = λ e. absurd (cc); nowhere = inl is }
refused_first image first others NoMemory is = refused_memory image (first ∷ others)

-- the first keeper's machine could not go there
pub refused_keep : (image : ImageContents) (first : StoreView) (others : List StoreView) (why : ReplayFault) →
    (why ≡ NoMemory) ⊎ IsFaultOfStore image first why → IsRefused image (first ∷ others) (live_fault_of why)
refused_keep image first others why is = ⊎_elim
    (λ (e : why ≡ NoMemory). subst (λ (w : ReplayFault). IsRefused image (first ∷ others) (live_fault_of w)) (sym e) (refused_memory image (first ∷ others)))
    (λ (of : IsFaultOfStore image first why). refused_first image first others why of) is

-- all keepers are enough
enough_here : (numbers : List ℕ) (n keepers need : ℕ) → numbers ≡ range_with_len 1 n → n + 1 ≡ keepers → keepers ≤ 5 → 0 < need →
    distinct_below keepers (0 ∷ numbers) < keepers - need + 1 → ⊥
enough_here numbers n keepers need are all most some few =
    let of : keepers ≡ suc n = omega (arith, all) in
    let many : distinct_below keepers (0 ∷ numbers) ≡ n + 1 =
    ap (λ (k : ℕ). distinct_below k (0 ∷ numbers)) of ∙ ap (λ (ns : List ℕ). distinct_below (suc n) (0 ∷ ns)) are ∙ all_differ n (omega arith) in
    omega (arith, many, all, some, few)

-- what all of them tell is no history that a primary of term 2 goes on from
pub refused_all : (image : ImageContents) (stores : List StoreView) (numbers : List ℕ) (n keepers need : ℕ) (fault : LiveFault) →
    numbers ≡ range_with_len 1 n → n + 1 ≡ keepers → keepers ≤ 5 → 0 < need →
    (fault ≡ TooFewStores → distinct_below keepers (0 ∷ numbers) < keepers - need + 1) → (fault ≡ TermNotNew → IsOld stores 2) →
    (fault ≡ Replay OtherGuest → Any (λ store. store.guest ≢ guest_of image) stores) →
    IfReplay fault (λ why. why ≢ OtherGuest → LeadNowhere image stores why) → IsRefused image stores fault
refused_all image stores numbers n keepers need TooFewStores are all most some few old other nowhere =
    absurd (enough_here numbers n keepers need are all most some (few refl))
refused_all image stores numbers n keepers need TermNotNew are all most some few old other nowhere =
    record { enough = λ e. cc; not_new = old; nowhere = tt }
refused_all image stores numbers n keepers need (Replay why) are all most some few old other nowhere =
    record { enough = λ e. cc; not_new = λ e. absurd (cc); nowhere = inr (λ e. other (ap Replay e), nowhere) }
refused_all image stores numbers n keepers need Memory are all most some few old other nowhere = refused_memory image stores
