-- What every machine keeps.
use Rattle.std.proofs.Common.{◌≡◌, ℕ, zero, suc, ◌+◌, ◌-◌, ◌*◌, ◌<◌, ◌≤◌, List, [], ◌∷◌, length, take, drop, map, replicate, slice_get, slice_set}
use Rattle.std.proofs.Common.{slice_index_or, Some, refl, sym, ap, ◌∙◌, arith, length-append, length-set}
use Rattle.std.specs.List.{flat_map, range_with_len, AllByRecursion}
use Rattle.std.proofs.lemmas.List.{length-replicate, set-set}
use Rattle.std.proofs.lemmas.Grind.{common_steps}
use Rattle.std.proofs.lemmas.Option.{slice_get-get_or}
use Rattle.guest_image.specs.Image.{ImageContents, Fits}
use Rattle.rv32_hart.specs.Hart.{Hart, boot_hart}
use Rattle.guest_image.specs.Machine.{MachineState, AreInPlace, IsMachine, word_bytes, page_with, pages_with, boot_harts, boot_machine, HasGoneOn, HaveGoneOn}

-- ---- at the start

boot_in_place : (harts place n : ℕ) → AreInPlace harts place (map (boot_hart harts) (range_with_len place n))
unfolding boot_hart
boot_in_place harts place zero = tt
boot_in_place harts place (suc n) = (refl, refl, boot_in_place harts (place + 1) n)

boot_count : (harts place n : ℕ) → length (map (boot_hart harts) (range_with_len place n)) ≡ n
boot_count harts place zero = refl
boot_count harts place (suc n) = ap suc (boot_count harts (place + 1) n)

bytes_size : (ws : List ℕ) → length (flat_map word_bytes ws) ≡ 4 * length ws
bytes_size [] = refl
bytes_size (w ∷ ws) = omega (arith, bytes_size ws)

page_size : (ws : List ℕ) → length ws ≤ 1024 → length (page_with ws) ≡ 4096
unfolding page_with
page_size ws h =
    omega (
      arith,
      length-append (flat_map word_bytes ws) (replicate (4096 - 4 * length ws) 0),
      bytes_size ws,
      length-replicate {A = ℕ} (4096 - 4 * length ws) 0,
    )

pub taken : (n : ℕ) (xs : List ℕ) → length (take n xs) ≤ n
taken n xs = grind (arith, common_steps)

pages_count : (n : ℕ) (ws : List ℕ) → length (pages_with n ws) ≡ n
unfolding pages_with
pages_count zero ws = refl
pages_count (suc n) ws = ap suc (pages_count n (drop 1024 ws))

pages_sizes : (n : ℕ) (ws : List ℕ) → AllByRecursion (λ page. length page ≡ 4096) (pages_with n ws)
unfolding pages_with
pages_sizes zero ws = tt
pages_sizes (suc n) ws = (page_size (take 1024 ws) (taken 1024 ws), pages_sizes n (drop 1024 ws))

pub boot_whole : (i : ImageContents) → Fits i → IsMachine (boot_machine i)
boot_whole i fits =
    let harts : length (boot_harts i.harts) ≡ i.harts = boot_count i.harts 0 i.harts in
    let pages : length (pages_with i.pages i.words) ≡ i.pages = pages_count i.pages i.words in
    record {
      some_harts = omega (arith, fits.some_harts);
      harts = omega (arith, fits.harts);
      places = rw harts (boot_in_place i.harts 0 i.harts);
      some_pages = omega (arith, fits.some_pages);
      pages = omega (arith, fits.pages);
      bytes = pages_sizes i.pages i.words;
    }

-- ---- a hart is put in its place

set_in_place : (harts place i : ℕ) (hs : List Hart) (h : Hart) → h.number ≡ place + i → h.harts ≡ harts →
    AreInPlace harts place hs → AreInPlace harts place (slice_set hs i h)
set_in_place harts place i [] h e f p = tt
set_in_place harts place zero (x ∷ hs) h e f p = (omega arith, f, p.2)
set_in_place harts place (suc i) (x ∷ hs) h e f p =
    (p.0, p.1, set_in_place harts (place + 1) i hs h (omega arith) f p.2)

in_place : (harts place i : ℕ) (hs : List Hart) (h : Hart) → AreInPlace harts place hs → slice_get hs i ≡ Some h → (h.number ≡ place + i) × (h.harts ≡ harts)
in_place harts place i [] h p e = cc
in_place harts place zero (x ∷ hs) h p e =
    let same : x ≡ h = cc in (ap (λ k. k.number) (sym same) ∙ (p.0 ∙ omega arith), ap (λ k. k.harts) (sym same) ∙ p.1)
in_place harts place (suc i) (x ∷ hs) h p e = let (number, all) = in_place harts (place + 1) i hs h p.2 e in (number ∙ omega arith, all)

pub whole_with_hart : (hs : List Hart) (ps : List (List ℕ)) (i : ℕ) (h : Hart) → h.number ≡ i → h.harts ≡ length hs →
    IsMachine (record { harts = hs; pages = ps }) → IsMachine (record { harts = slice_set hs i h; pages = ps })
whole_with_hart hs ps i h e f p =
    let size : length (slice_set hs i h) ≡ length hs = length-set hs i h in
    record {
      some_harts = omega (arith, p.some_harts);
      harts = omega (arith, p.harts);
      places = rw size (set_in_place (length hs) 0 i hs h (omega arith) f p.places);
      some_pages = p.some_pages;
      pages = p.pages;
      bytes = p.bytes;
    }

-- a hart of a machine has its place as its number, and knows how many harts there are
pub place_of : (m : MachineState) (i : ℕ) (h : Hart) → IsMachine m → slice_get m.harts i ≡ Some h → (h.number ≡ i) × (h.harts ≡ length m.harts)
place_of m i h p e = let (number, all) = in_place (length m.harts) 0 i m.harts h p.places e in (number ∙ omega arith, all)

-- with other outputs it stays there
pub whole_with_outputs : (hs : List Hart) (ps : List (List ℕ)) (i : ℕ) (old new : Hart) → slice_get hs i ≡ Some old →
    new ≡ record old { outputs = new.outputs } →
    IsMachine (record { harts = hs; pages = ps }) → IsMachine (record { harts = slice_set hs i new; pages = ps })
whole_with_outputs hs ps i old new e rest p =
    let (number, all) = place_of (record { harts = hs; pages = ps }) i old p e in
    whole_with_hart hs ps i new (ap (λ h. h.number) rest ∙ number) (ap (λ h. h.harts) rest ∙ all) p

-- the hart that is found in a place
pub found_there : (hs : List Hart) (i : ℕ) (x h : Hart) → x ≡ slice_index_or hs i x → slice_get hs i ≡ Some h → x ≡ h
found_there [] i x h found e = cc
found_there (y ∷ hs) zero x h found e = cc
found_there (y ∷ hs) (suc i) x h found e = found_there hs i x h found e

pub got_there : (hs : List Hart) (i : ℕ) (x : Hart) → x ≡ slice_index_or hs i x → i < length hs → slice_get hs i ≡ Some x
got_there hs i x found within = slice_get-get_or hs i x within ∙ ap (λ h. Some h) (sym found)

pub set_twice : (hs : List Hart) (i : ℕ) (h k : Hart) → slice_set (slice_set hs i h) i k ≡ slice_set hs i k
set_twice hs i h k = set-set hs i h k

-- ---- harts that went on

pub first_on : (before after : List Hart) (h g : Hart) (hs gs : List Hart) → before ≡ h ∷ hs → after ≡ g ∷ gs → HaveGoneOn before after → HasGoneOn h g
first_on before after h g hs gs e f on = on 0 h g (ap (λ (l : List Hart). slice_get l 0) e) (ap (λ (l : List Hart). slice_get l 0) f)

others_on : (before after : List Hart) (h g : Hart) (hs gs : List Hart) → before ≡ h ∷ hs → after ≡ g ∷ gs → HaveGoneOn before after → HaveGoneOn hs gs
others_on before after h g hs gs e f on i a b has_a has_b =
    on (suc i) a b (ap (λ (l : List Hart). slice_get l (suc i)) e ∙ has_a) (ap (λ (l : List Hart). slice_get l (suc i)) f ∙ has_b)

-- behind the first of both stand as many, which went on too
pub rest_on : (before after : List Hart) (h g : Hart) (hs gs : List Hart) → before ≡ h ∷ hs → after ≡ g ∷ gs → length before ≡ length after →
    HaveGoneOn before after → (length hs ≡ length gs) × HaveGoneOn hs gs
rest_on before after h g hs gs e f many on =
    let one : length before ≡ suc (length hs) = ap (λ (l : List Hart). length l) e in
    let other : length after ≡ suc (length gs) = ap (λ (l : List Hart). length l) f in
    (omega (arith, one, other, many), others_on before after h g hs gs e f on)
