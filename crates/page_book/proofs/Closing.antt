-- Open leases that are ended one after the other.
use Rattle.std.proofs.Common.{◌≡◌, ◌<◌, ◌≤◌, ◌+◌, ◌∙◌, ap, sym, subst, ℕ, zero, suc, List, length, replicate, slice_set, Option, None, refl, arith, inl, inr}
use Rattle.std.proofs.Common.{length-set}
use Rattle.std.proofs.lemmas.Bool.{cases_eq, cases_lt}
use Rattle.std.proofs.lemmas.List.{ext_get_or, get_or-replicate, get_or-set_same, get_or-set_other, length-replicate}
use Rattle.hart_lease.specs.OpenLeases.{OpenView, open_at}
use Rattle.guest_image.specs.Machine.{MachineState}
use Rattle.page_book.specs.Books.{BookView}
use Rattle.page_book.specs.Reclaims.{closed, Ending, EndsOpen, EndsOne, EndsFirst}

-- those of later harts stay open
pub closed_later : (leases : List (Option OpenView)) (n m : ℕ) → n ≤ m → open_at (closed n leases) m ≡ open_at leases m
closed_later leases zero m le = refl
closed_later leases (suc n) m le =
    get_or-set_other (closed n leases) n m None None (λ (e : m ≡ n). absurd (omega arith)) ∙ closed_later leases n m (omega arith)

length-closed : (leases : List (Option OpenView)) (n : ℕ) → length (closed n leases) ≡ length leases
length-closed leases zero = refl
length-closed leases (suc n) = length-set (closed n leases) n None ∙ length-closed leases n

-- those of the first harts are ended
closed_first : (leases : List (Option OpenView)) (n hart : ℕ) → n ≤ length leases → hart < n → open_at (closed n leases) hart ≡ None
closed_first leases zero hart within lt = absurd (omega arith)
closed_first leases (suc n) hart within lt = elim (cases_eq hart n) [
  | inl same ↦ rw same (get_or-set_same (closed n leases) n None None (omega (arith, length-closed leases n)))
  | inr ne ↦ get_or-set_other (closed n leases) n hart None None ne ∙ closed_first leases n hart (omega arith) (omega arith)
]

-- after all none is open
pub closed_all : (leases : List (Option OpenView)) (n : ℕ) → length leases ≡ n → closed n leases ≡ replicate n None
closed_all leases n many =
    ext_get_or None (closed n leases) (replicate n None) (length-closed leases n ∙ (many ∙ sym (length-replicate {A = Option OpenView} n None)))
    (λ i below.
    let within : i < n = omega (arith, length-closed leases n) in
    closed_first leases n i (omega arith) within ∙ sym (get_or-replicate n i None None within))

-- and after those of the harts that alone have one
pub closed_known : (leases : List (Option OpenView)) (n rows : ℕ) → length leases ≡ rows → n ≤ rows →
    ((hart : ℕ) → n ≤ hart → open_at leases hart ≡ None) → closed n leases ≡ replicate rows None
closed_known leases n rows many few known =
    ext_get_or None (closed n leases) (replicate rows None) (length-closed leases n ∙ (many ∙ sym (length-replicate {A = Option OpenView} rows None)))
    (λ i below.
    let within : i < rows = omega (arith, length-closed leases n) in
    elim (cases_lt i n) [
      | inl less ↦ closed_first leases n i (omega arith) less ∙ sym (get_or-replicate rows i None None within)
      | inr over ↦ closed_later leases n i over ∙ (known i over ∙ sym (get_or-replicate rows i None None within))
    ])

-- one lease more is ended
pub closes_more : {M : Type 0} → (ends : Ending M) (b s a : BookView M) (n h : ℕ) → h ≡ n → s ≡ record b { leases = closed n b.leases; mode = s.mode } →
    EndsFirst ends b.machine b.leases n b.mode s.mode → a ≡ record s { leases = slice_set s.leases h None; mode = a.mode } →
    EndsOne ends s.machine s.leases h s.mode a.mode →
    (a ≡ record b { leases = closed (n + 1) b.leases; mode = a.mode }) × EndsFirst ends b.machine b.leases (n + 1) b.mode a.mode
closes_more {M} ends b s a n h at is first next one =
    let more : n + 1 ≡ suc n = omega arith in
    let machine : s.machine ≡ b.machine = ap (λ (x : BookView M). x.machine) is in
    let lent : open_at s.leases h ≡ open_at b.leases n =
    ap (λ (x : BookView M). open_at x.leases h) is ∙ (ap (λ (k : ℕ). open_at (closed n b.leases) k) at ∙ closed_later b.leases n n (omega arith)) in
    let ended : EndsOpen ends b.machine (open_at b.leases n) n s.mode a.mode =
    subst (λ (k : ℕ). EndsOpen ends b.machine (open_at b.leases n) k s.mode a.mode) at
    (subst (λ (o : Option OpenView). EndsOpen ends b.machine o h s.mode a.mode) lent
    (subst (λ (m : MachineState). EndsOpen ends m (open_at s.leases h) h s.mode a.mode) machine one)) in
    let now : a ≡ record b { leases = closed (suc n) b.leases; mode = a.mode } =
    next
    ∙ (ap (λ (x : BookView M). record { start = x.start; machine = x.machine; journal = x.journal; leases = slice_set x.leases h None; mode = a.mode }) is
    ∙ ap (λ (k : ℕ). record { start = b.start; machine = b.machine; journal = b.journal; leases = slice_set (closed n b.leases) k None; mode = a.mode }) at) in
    let all : EndsFirst ends b.machine b.leases (suc n) b.mode a.mode = (s.mode, first, ended) in
    rw more (now, all)
