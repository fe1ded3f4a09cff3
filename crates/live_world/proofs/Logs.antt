-- Logs that were handed over, by their numbers, and the stores that are given of them.
use Rattle.std.proofs.Common.{◌≡◌, ℕ, zero, suc, ◌+◌, ◌<◌, ◌≤◌, List, [], ◌∷◌, ◌++◌, Contains, length, take, get_or, slice_get, Some, refl, sym, ap, subst, ◌∙◌, arith}
use Rattle.std.proofs.lemmas.List.{take_more}
use Rattle.std.proofs.lemmas.List.Elements.{Contains-get_or}
use Rattle.std.proofs.lemmas.Option.{slice_get_read}
use Rattle.ft_types.specs.Guests.{GuestParts}
use Rattle.ft_types.specs.declared.names.TheConstants.{KEEPER_LIMIT}
use Rattle.guest_image.specs.Image.{ImageContents, guest_of}
use Rattle.log_join.specs.Coming.{IsJoinOf}
use Rattle.fenced_live.specs.declared.given.Given.{Given}
use Rattle.stations.specs.Handing.{IsHandedTo}
use Rattle.leading.specs.Handed.{IsGiven, IsNotWhole}
use Rattle.leading.specs.declared.handed.HandedFault.{HandedFault}
use Rattle.leading.specs.declared.handed.HandedLog.{HandedLog}
use Rattle.live_world.specs.declared.hand.HandedTo.{HandedTo}
use Rattle.live_world.specs.Grants.{AreGivenBy, HasLogs, IsGivenOf}

-- ---- logs

-- whatever a keeper handed over so, the log is that
abbrev pub IsLogOf : GuestParts → List ℕ → HandedLog → Type 0
IsLogOf guest bytes l =
    (keeper term : ℕ) (sent : List ℕ) → keeper < KEEPER_LIMIT → IsHandedTo guest keeper term sent bytes → IsGiven guest keeper term sent l

has_more : (guest : GuestParts) (handed : List HandedTo) (numbers : List ℕ) (logs : List HandedLog) (n : ℕ) (h : HandedTo) (l : HandedLog) →
    HasLogs guest handed numbers logs → slice_get handed n ≡ Some h → IsLogOf guest h.bytes.items l → HasLogs guest handed (numbers ++ n ∷ []) (logs ++ l ∷ [])
has_more guest handed [] [] n h l has there is = ((h, there, is), tt)
has_more guest handed [] (k ∷ logs) n h l has there is = absurd has
has_more guest handed (m ∷ numbers) [] n h l has there is = absurd has
has_more guest handed (m ∷ numbers) (k ∷ logs) n h l has there is = (has.0, has_more guest handed numbers logs n h l has.1 there is)

-- it is the one with this number
module _ (handed : List HandedTo) (numbers : List ℕ) (i : ℕ) (h : HandedTo) (bytes : List ℕ) (within : i < length numbers)
    (below : get_or numbers i 0 < length handed) (is : h ≡ get_or handed (get_or numbers i 0) h) (own : bytes ≡ h.bytes.items) where
  there : slice_get handed (get_or numbers i 0) ≡ Some h
  there = slice_get_read handed (length handed) (get_or numbers i 0) h refl below is

  -- one log more was read
  pub logs_more : (guest : GuestParts) (l : HandedLog) (old mid new : List HandedLog) → IsLogOf guest bytes l → mid ≡ old → new ≡ mid ++ l ∷ [] →
      HasLogs guest handed (take i numbers) old → HasLogs guest handed (take (i + 1) numbers) new
  logs_more guest l old mid new log same more has =
      let now : HasLogs guest handed (take i numbers ++ get_or numbers i 0 ∷ []) (old ++ l ∷ []) =
      has_more guest handed (take i numbers) old (get_or numbers i 0) h l has there (subst (λ (bs : List ℕ). IsLogOf guest bs l) own log) in
      subst (λ (ls : List HandedLog). HasLogs guest handed (take (i + 1) numbers) ls) (sym (more ∙ ap (λ (ls : List HandedLog). ls ++ l ∷ []) same))
      (subst (λ (ns : List ℕ). HasLogs guest handed ns (old ++ l ∷ [])) (sym (take_more numbers i 0 within)) now)

  -- it is none
  pub not_whole : (guest : GuestParts) (f : HandedFault) → IsNotWhole guest bytes f → (image : ImageContents) → guest_of image ≡ guest →
      (n : ℕ) × (h : HandedTo) × Contains numbers n × (slice_get handed n ≡ Some h) × IsNotWhole (guest_of image) h.bytes.items f
  not_whole guest f why image same = (
    get_or numbers i 0,
    h,
    Contains-get_or numbers i 0 within,
    there,
    subst (λ (guest : GuestParts). IsNotWhole guest h.bytes.items f) (sym same) (subst (λ (bs : List ℕ). IsNotWhole guest bs f) own why),
  )

-- ---- what is given of them

-- each store is given as the log has it
abbrev pub AreGivenAs : List HandedLog → List Given → Type 0
AreGivenAs [] [] = Unit {0}
AreGivenAs (l ∷ logs) (g ∷ given) = ((g.keeper ≡ l.keeper) × (g.term ≡ l.term) × (g.store.now ≡ l.store)) × AreGivenAs logs given
AreGivenAs [] (g ∷ given) = ⊥
AreGivenAs (l ∷ logs) [] = ⊥

as_more : (logs : List HandedLog) (given : List Given) (l : HandedLog) (g : Given) → AreGivenAs logs given →
    (g.keeper ≡ l.keeper) × (g.term ≡ l.term) × (g.store.now ≡ l.store) → AreGivenAs (logs ++ l ∷ []) (given ++ g ∷ [])
as_more [] [] l g are is = (is, tt)
as_more [] (k ∷ given) l g are is = absurd are
as_more (m ∷ logs) [] l g are is = absurd are
as_more (m ∷ logs) (k ∷ given) l g are is = (are.0, as_more logs given l g are.1 is)

-- one store more was given
pub given_more : (logs : List HandedLog) (i : ℕ) (l : HandedLog) (old new : List Given) (g : Given) → i < length logs → l ≡ get_or logs i l →
    AreGivenAs (take i logs) old → (g.keeper ≡ l.keeper) × (g.term ≡ l.term) × (g.store.now ≡ l.store) → new ≡ old ++ g ∷ [] →
    AreGivenAs (take (i + 1) logs) new
given_more logs i l old new g within item are is more =
    let front : take (i + 1) logs ≡ take i logs ++ l ∷ [] =
    take_more logs i l within ∙ ap (λ (x : HandedLog). take i logs ++ x ∷ []) (sym item) in
    subst (λ (ls : List HandedLog). AreGivenAs ls new) (sym front)
    (subst (λ (gs : List Given). AreGivenAs (take i logs ++ l ∷ []) gs) (sym more) (as_more (take i logs) old l g are is))

-- all were
pub given_all : (guest : GuestParts) (handed : List HandedTo) (numbers : List ℕ) (logs : List HandedLog) (given : List Given) →
    HasLogs guest handed numbers logs → AreGivenAs logs given → AreGivenBy guest handed numbers given
given_all guest handed [] [] [] has are = tt
given_all guest handed [] [] (g ∷ given) has are = absurd are
given_all guest handed [] (l ∷ logs) given has are = absurd has
given_all guest handed (n ∷ numbers) [] given has are = absurd has
given_all guest handed (n ∷ numbers) (l ∷ logs) [] has are = absurd are
given_all guest handed (n ∷ numbers) (l ∷ logs) (g ∷ given) ((h, there, log), has) ((keeper, term, store), are) = (
  (
    h,
    there,
    λ by to sent named line.
        let is = log by to sent named line in
        (keeper ∙ is.by, term ∙ is.to, is.frames, is.splits, subst (λ now. IsJoinOf guest is.frames now) (sym store) is.join),
  ),
  given_all guest handed numbers logs given has are,
)
