-- A lease, step by step, and back in its book.
use Rattle.std.proofs.Common.{◌≡◌, ◌≢◌, ℕ, zero, suc, ◌+◌, ◌-◌, ◌<◌, ◌≤◌, ◌⊎◌, List, [], ◌∷◌, map, length, length-set, replicate, slice_get, slice_set, Option}
use Rattle.std.proofs.Common.{None, Some, Result, Ok, Err, false, refl, sym, ap, subst, ◌∙◌, inl, inr, arith, lit<}
use Rattle.std.specs.Result.{OnOk, OnErr, IfErr, is_err}
use Rattle.rv32_hart.specs.declared.outcome.Tick.TheVariants.{Miss}
use Rattle.rv32_hart.specs.Hart.{Hart}
use Rattle.ft_types.specs.declared.names.Want.{Want}
use Rattle.ft_types.specs.declared.names.Want.TheVariants.{Read, Write}
use Rattle.guest_image.specs.Machine.{MachineState}
use Rattle.hart_lease.specs.declared.lease_pages.Slot.{Slot}
use Rattle.hart_lease.specs.declared.lease_pages.Slot.TheVariants.{Readable, Writable}
use Rattle.book_modes.specs.declared.mode.Mode.{Ghosts}
use Rattle.hart_lease.specs.declared.taken.Taken.{Taken}
use Rattle.hart_lease.specs.Slots.{slot_at, want_of}
use Rattle.hart_lease.specs.Leases.{LeaseView, Ticks, StepsOn, IsFull, inputs_next, IsLent, outputs_of, whole, whole_in, with_page, with_page_beside, IsLentBy}
use Rattle.page_book.specs.Books.{BookView, IsOurs}
use Rattle.page_book.specs.declared.answers.BookFault.{BookFault}
use Rattle.page_book.specs.declared.answers.BookFault.TheVariants.{Foreign}
use Rattle.hart_lease.specs.OpenLeases.{OpenView, open_at}
use Rattle.hart_lease.specs.Runs.{counts_of}
use Rattle.book_modes.specs.declared.keep.Keep.{Keep}
use Rattle.hart_lease.specs.Laws.{StepCounts, StepKeepsRights, LacksOnAPage, Covers}
use Rattle.lease_rounds.specs.Leading.{IsIdle, IsAlone, Gives, Fills, NoneYet, Steps, Takes, ComesBack, EndsWithout, lacking, rights_short}

-- ---- a page that is given

-- the other leases stay
pub row_kept : (leases : List (Option OpenView)) (hart other : ℕ) (lent : Option OpenView) → other ≢ hart → open_at (slice_set leases hart lent) other ≡ open_at
    leases other
row_kept [] hart other lent ne = refl
row_kept (x ∷ leases) zero zero lent ne = absurd (ne refl)
row_kept (x ∷ leases) zero (suc other) lent ne = refl
row_kept (x ∷ leases) (suc hart) zero lent ne = refl
row_kept (x ∷ leases) (suc hart) (suc other) lent ne = row_kept leases hart other lent (λ e. ne (ap suc e))

-- a right more on one page leaves fewer to lack
fewer_set : (slots : List Slot) (page : ℕ) (slot : Slot) → page < length slots → rights_short (want_of slot) < rights_short (want_of (slot_at slots page)) →
    lacking (map want_of (slice_set slots page slot)) < lacking (map want_of slots)
fewer_set [] page slot lt short = absurd (omega arith)
fewer_set (s ∷ slots) zero slot lt short = omega (arith, short)
fewer_set (s ∷ slots) (suc page) slot lt short = let rest = fewer_set slots page slot (omega arith) short in omega (arith, rest)

fewer_beside : (held : Option Want) (want : Want) (l : LeaseView) (page : ℕ) (here : List ℕ) → want_of (slot_at l.slots page) ≡ held → page < length l.slots →
    (Covers held want → ⊥) →
    lacking (map want_of (with_page_beside held want l page here).slots) < lacking (map want_of l.slots)
fewer_beside None Read l page here is lt lacks = fewer_set l.slots page (Readable here) lt (rw is (lit< tt))
fewer_beside (Some held) Read l page here is lt lacks = absurd (lacks (covers_read held))
  where
    covers_read : (w : Want) → Covers (Some w) Read
    covers_read Read = tt
    covers_read Write = tt
fewer_beside None Write l page here is lt lacks = fewer_set l.slots page (Writable here) lt (rw is (lit< tt))
fewer_beside (Some Read) Write l page here is lt lacks = fewer_set l.slots page (Writable here) lt (rw is (lit< tt))
fewer_beside (Some Write) Write l page here is lt lacks = absurd (lacks tt)

inputs_beside : (held : Option Want) (want : Want) (l : LeaseView) (page : ℕ) (here : List ℕ) → (with_page_beside held want l page here).inputs ≡ l.inputs
inputs_beside None Read l page here = refl
inputs_beside (Some held) Read l page here = refl
inputs_beside None Write l page here = refl
inputs_beside (Some Read) Write l page here = refl
inputs_beside (Some Write) Write l page here = refl

page_at : (pages : List (List ℕ)) (page : ℕ) → page < length pages → (here : List ℕ) × (slice_get pages page ≡ Some here)
page_at [] page lt = absurd (omega arith)
page_at (p ∷ pages) zero lt = (p, refl)
page_at (p ∷ pages) (suc page) lt = page_at pages page (omega arith)

lent_pages : (lent : Option OpenView) (m : MachineState) (l : LeaseView) → IsLentBy lent m l → length l.slots ≡ length m.pages
lent_pages None m l p = absurd p
lent_pages (Some lent) m l p = p.is_lent.as_many

module _ {M : Type 0} (b : BookView M) (l : LeaseView) (alone : IsAlone b l) (page : ℕ) (on_page : page < length l.slots) where
  pub need_within : page < length b.machine.pages
  need_within = omega (arith, on_page, lent_pages (open_at b.leases l.hart) b.machine (whole_in b.machine l) alone.ours)

  -- the lease lacks fewer rights then
  pub fewer : (k : LeaseView) (want : Want) → (Covers (want_of (slot_at l.slots page)) want → ⊥) →
      ((here : List ℕ) → slice_get b.machine.pages page ≡ Some here → k ≡ record (with_page l page want here) { edges = k.edges }) →
      lacking (map want_of k.slots) < lacking (map want_of l.slots)
  fewer k want lacks given =
      let here = page_at b.machine.pages page need_within in
      subst (λ (x : LeaseView). lacking (map want_of x.slots) < lacking (map want_of l.slots)) (sym (given here.0 here.1))
      (fewer_beside (want_of (slot_at l.slots page)) want l page here.0 refl on_page lacks)

  -- its first step's inputs stay
  pub inputs_stay : (k : LeaseView) (want : Want) →
      ((here : List ℕ) → slice_get b.machine.pages page ≡ Some here → k ≡ record (with_page l page want here) { edges = k.edges }) → k.inputs ≡ l.inputs
  inputs_stay k want given =
      let here = page_at b.machine.pages page need_within in
      ap (λ (x : LeaseView). x.inputs) (given here.0 here.1) ∙ inputs_beside (want_of (slot_at l.slots page)) want l page here.0

most_beside : (o : Option Want) (want : Want) (l : LeaseView) (page : ℕ) (here : List ℕ) → (with_page_beside o want l page here).most ≡ l.most
most_beside None Read l page here = refl
most_beside None Write l page here = refl
most_beside (Some Read) Read l page here = refl
most_beside (Some Write) Read l page here = refl
most_beside (Some Read) Write l page here = refl
most_beside (Some Write) Write l page here = refl

-- and so does how many steps it takes
pub most_stays : {M : Type 0} (b : BookView M) (l : LeaseView) → IsAlone b l → (page : ℕ) → page < length l.slots → (k : LeaseView) (want : Want) →
    ((here : List ℕ) → slice_get b.machine.pages page ≡ Some here → k ≡ record (with_page l page want here) { edges = k.edges }) → k.most ≡ l.most
most_stays b l alone page on_page k want given =
    let here = page_at b.machine.pages page (need_within b l alone page on_page) in
    ap (λ (x : LeaseView). x.most) (given here.0 here.1) ∙ most_beside (want_of (slot_at l.slots page)) want l page here.0

-- the lease stays the book's only one
pub still_alone : {M : Type 0} (b c : BookView M) (l k : LeaseView) (lent : Option OpenView) → IsAlone b l → k.hart ≡ l.hart → IsOurs c k →
    c.leases ≡ slice_set b.leases l.hart lent → IsAlone c k
still_alone b c l k lent alone hart ours leases =
    record {
      ours = ours;
      alone = λ h ne.
          ap (λ (x : List (Option OpenView)). open_at x h) leases
          ∙ row_kept b.leases l.hart h lent (λ e. ne (e ∙ sym hart))
          ∙ alone.alone h (λ e. ne (e ∙ sym hart));
      rows = ap length leases ∙ length-set b.leases l.hart lent ∙ alone.rows;
    }

-- ---- a step

lent_on : (lent : Option OpenView) (m : MachineState) (earlier : List (ℕ × ℕ)) (k n : LeaseView) → n.stop ≡ k.stop → n.inputs ≡ k.inputs → n.edges ≡ k.edges →
    ((machine : MachineState) (taken : List (Option Taken)) (earlier : List (ℕ × ℕ)) → IsLent machine taken (whole earlier k) → IsLent machine taken
    (whole earlier n)) → IsLentBy lent m (whole earlier k) → IsLentBy lent m (whole earlier n)
lent_on None m earlier k n stop inputs edges still p = absurd p
lent_on (Some lent) m earlier k n stop inputs edges still p =
    record { stop = stop ∙ p.stop; inputs = inputs ∙ p.inputs; edges = edges ∙ p.edges; is_lent = still m lent.taken earlier p.is_lent }

-- what steps leave of a lease as it is, and that its hart goes on
pub record Keeps (k n : LeaseView) : Type 0 where
  pub hart : n.hart ≡ k.hart
  pub stop : n.stop ≡ k.stop
  pub inputs : n.inputs ≡ k.inputs
  pub edges : n.edges ≡ k.edges
  pub rights : map want_of n.slots ≡ map want_of k.slots
  pub onward : k.present.count ≤ n.present.count

pub keeps : (j : ℕ) (k n : LeaseView) → StepCounts → StepKeepsRights → StepsOn j k n → Keeps k n
keeps zero k n counts rights s =
    subst (λ (x : LeaseView). Keeps k x) (sym s) (record { hart = refl; stop = refl; inputs = refl; edges = refl; rights = refl; onward = omega arith })
keeps (suc j) k n counts rights s =
    let so = keeps j k s.0 counts rights s.1 in
    let t = s.3 in
    let one = counts s.0 n t in
    record {
      hart = ap (λ (x : LeaseView). x.hart) t.0 ∙ so.hart;
      stop = ap (λ (x : LeaseView). x.stop) t.0 ∙ so.stop;
      inputs = ap (λ (x : LeaseView). x.inputs) t.0 ∙ so.inputs;
      edges = ap (λ (x : LeaseView). x.edges) t.0 ∙ so.edges;
      rights = rights s.0 n t ∙ so.rights;
      onward = omega (arith, one, so.onward);
    }

-- steps leave whose lease it is
pub alone_kept : {M : Type 0} (c : BookView M) (k n : LeaseView) →
    ((machine : MachineState) (taken : List (Option Taken)) (earlier : List (ℕ × ℕ)) → IsLent machine taken (whole earlier k) → IsLent machine taken
    (whole earlier n)) →
    IsAlone c k → Keeps k n → IsAlone c n
alone_kept c k n still alone t =
    record {
      ours = subst (λ (h : ℕ). IsLentBy (open_at c.leases h) c.machine (whole (outputs_of (slice_get c.machine.harts h)) n)) (sym t.hart)
          (lent_on (open_at c.leases k.hart) c.machine (outputs_of (slice_get c.machine.harts k.hart)) k n t.stop t.inputs t.edges still alone.ours);
      alone = λ h ne. alone.alone h (λ e. ne (e ∙ sym t.hart));
      rows = alone.rows;
    }

-- and so does how many it may take
pub alone_for : {M : Type 0} (c : BookView M) (k n : LeaseView) (most : ℕ) → n ≡ record k { most = most } →
    ((machine : MachineState) (taken : List (Option Taken)) (earlier : List (ℕ × ℕ)) → IsLent machine taken (whole earlier k) → IsLent machine taken
    (whole earlier n)) →
    IsAlone c k → IsAlone c n
alone_for c k n most is still alone = alone_kept c k n still alone (record {
  hart = ap (λ (x : LeaseView). x.hart) is;
  stop = ap (λ (x : LeaseView). x.stop) is;
  inputs = ap (λ (x : LeaseView). x.inputs) is;
  edges = ap (λ (x : LeaseView). x.edges) is;
  rights = ap (λ (x : LeaseView). map want_of x.slots) is;
  onward = omega (arith, ap (λ (x : LeaseView). x.present.count) is);
})

-- and so does what leaves lease and book as they are
pub alone_as : {M : Type 0} (c d : BookView M) (k n : LeaseView) → IsAlone c k → d ≡ c → n ≡ k → IsAlone d n
alone_as c d k n alone book lease =
    subst (λ (x : BookView _). IsAlone x n) (sym book) (subst (λ (x : LeaseView). IsAlone c x) (sym lease) alone)

-- after steps and a page there is less to go
pub smaller : (k n m : LeaseView) → Keeps k n → m.present ≡ n.present → m.stop ≡ n.stop → lacking (map want_of m.slots) < lacking (map want_of n.slots) →
    (m.stop - m.present.count) + lacking (map want_of m.slots) < (k.stop - k.present.count) + lacking (map want_of k.slots)
smaller k n m t present stop fewer =
    let count : m.present.count ≡ n.present.count = ap (λ (h : Hart). h.count) present in
    let same : lacking (map want_of n.slots) ≡ lacking (map want_of k.slots) = ap lacking t.rights in
    omega (arith, t.onward, count, same, fewer, stop, t.stop)

-- the page that a step lacks
pub lacks_there : (k n : LeaseView) (page : ℕ) (want : Want) → LacksOnAPage → Ticks (Miss page want) k n →
    (page < length n.slots) × (Covers (want_of (slot_at n.slots page)) want → ⊥)
lacks_there k n page want law t =
    let lacks = law k (inputs_next k) page want t.1 in
    subst (λ (x : LeaseView). (page < length x.slots) × (Covers (want_of (slot_at x.slots page)) want → ⊥)) (sym t.0) lacks

-- ---- steps and pages

-- the lease's hart has taken no step, or some, not past its stop
abbrev pub HasGone : LeaseView → LeaseView → Type 0
HasGone l k = ((k.present ≡ l.present) × (k.steps ≡ l.steps)) ⊎ ((l.present.count < k.present.count) × (k.present.count ≤ k.stop))

-- what stays while a lease is filled, and how far its hart goes
pub record HasFilled {M : Type 0} (b : BookView M) (l : LeaseView) (c : BookView M) (k : LeaseView) : Type 0 where
  pub book : c ≡ record b { leases = c.leases; mode = c.mode }
  pub hart : k.hart ≡ l.hart
  pub base : k.base ≡ l.base
  pub inputs : k.inputs ≡ l.inputs
  pub most : k.most ≡ l.most
  pub stop : k.stop ≡ l.stop
  pub gone : HasGone l k

below_stop : (l : LeaseView) → (IsFull l → ⊥) → l.present.count < l.stop
below_stop l room = omega (arith, λ (le : l.stop ≤ l.present.count). room (inr (inl le)))

counts_on : (l k n : LeaseView) → HasGone l k → n.stop ≡ k.stop → n.present.count ≡ k.present.count + 1 → k.present.count < k.stop → HasGone l n
counts_on l k n gone stop one lt = elim gone [
  | inl same ↦ inr (omega (arith, one, ap (λ (h : Hart). h.count) same.0), omega (arith, one, stop, lt))
  | inr on ↦ inr (omega (arith, one, on.0), omega (arith, one, stop, lt))
]

gone_as : (l k m : LeaseView) → HasGone l k → m.present ≡ k.present → m.steps ≡ k.steps → m.stop ≡ k.stop → HasGone l m
gone_as l k m gone present steps stop =
    let count : m.present.count ≡ k.present.count = ap (λ (h : Hart). h.count) present in
    elim gone [
      | inl same ↦ inl (present ∙ same.0, steps ∙ same.1)
      | inr on ↦ inr (omega (arith, count, on.0), omega (arith, count, stop, on.1))
    ]

module _ {M : Type 0} (g : Ghosts M) (b : BookView M) (l : LeaseView) where
  -- some steps more
  pub fills_run : (j : ℕ) (c : BookView M) (k n : LeaseView) → Fills g b l c k → StepsOn j k n → Fills g b l c n
  fills_run zero c k n fills s = subst (λ (x : LeaseView). Fills g b l c x) (sym s) fills
  fills_run (suc j) c k n fills s = Steps n (fills_run j c k s.0 fills s.1) s.2 s.3

  pub fills_as : (c d : BookView M) (k n : LeaseView) → Fills g b l c k → d ≡ c → n ≡ k → Fills g b l d n
  fills_as c d k n fills book lease =
      subst (λ (x : BookView M). Fills g b l x n) (sym book) (subst (λ (x : LeaseView). Fills g b l c x) (sym lease) fills)

  -- a page that was given to a lease that may go on, or refused
  pub fills_given : {A E : Type 0} (r : Result A E) (c : BookView M) (k : LeaseView) → (IsFull l → ⊥) → OnOk r (Gives g b l c k) → OnErr r (c ≡ b) →
      OnErr r (k ≡ l) → Fills g b l c k
  fills_given (Ok x) c k room given book lease = Takes c k NoneYet room given
  fills_given (Err x) c k room given book lease = fills_as b c l k NoneYet book lease

  -- what fills the lease from there fills it
  pub fills_on : (c : BookView M) (k : LeaseView) → Fills g b l c k → (d : BookView M) (n : LeaseView) → Fills g c k d n → Fills g b l d n
  fills_on c k first d n NoneYet = first
  fills_on c k first d n (Steps {c = now} {k = before} m more room t) = Steps m (fills_on c k first now before more) room t
  fills_on c k first d n (Takes {c = now} {k = held} e m more room given) = Takes e m (fills_on c k first now held more) room given

  pub has_filled : StepCounts → (c : BookView M) (k : LeaseView) → Fills g b l c k → HasFilled b l c k
  has_filled counts c k NoneYet = record { book = refl; hart = refl; base = refl; inputs = refl; most = refl; stop = refl; gone = inl (refl, refl) }
  has_filled counts c k (Steps {c = now} {k = before} n fills room t) =
      let f = has_filled counts now before fills in
      record {
        book = f.book;
        hart = ap (λ (x : LeaseView). x.hart) t.0 ∙ f.hart;
        base = ap (λ (x : LeaseView). x.base) t.0 ∙ f.base;
        inputs = ap (λ (x : LeaseView). x.inputs) t.0 ∙ f.inputs;
        most = ap (λ (x : LeaseView). x.most) t.0 ∙ f.most;
        stop = ap (λ (x : LeaseView). x.stop) t.0 ∙ f.stop;
        gone = counts_on l before k f.gone (ap (λ (x : LeaseView). x.stop) t.0) (counts before k t) (below_stop before room);
      }
  has_filled counts c k (Takes {c = before} {k = held} d n fills room given) =
      let f = has_filled counts before held fills in
      record {
        book = given.book ∙ ap (λ (x : BookView M). let y : BookView M = record x { leases = c.leases; mode = c.mode } in y) f.book;
        hart = given.hart ∙ f.hart;
        base = given.base ∙ f.base;
        inputs = given.inputs ∙ f.inputs;
        most = given.most ∙ f.most;
        stop = given.stop ∙ f.stop;
        gone = gone_as l held k f.gone given.present given.steps given.stop;
      }

-- ---- back in the book

pub where_ok : {A E P : Type 0} (r : Result A E) → false ≡ is_err r → OnOk r P → P
where_ok (Ok x) e p = p
where_ok (Err x) e p = cc

pub on_ok : {A E P Q : Type 0} (r : Result A E) → (P → Q) → OnOk r P → OnOk r Q
on_ok (Ok x) f p = f p
on_ok (Err x) f p = tt

pub where_err : {A E P : Type 0} (r : Result A E) → P → OnErr r P
where_err (Ok x) p = tt
where_err (Err x) p = p

pub on_err : {A E P Q : Type 0} (r : Result A E) → (P → Q) → OnErr r P → OnErr r Q
on_err (Ok x) f p = tt
on_err (Err x) f p = f p

none_left : (leases : List (Option OpenView)) (hart other : ℕ) → (other ≢ hart → open_at leases other ≡ None) → open_at (slice_set leases hart None) other ≡
    None
none_left [] hart other e = refl
none_left (x ∷ leases) zero zero e = refl
none_left (x ∷ leases) zero (suc other) e = e (λ f. cc)
none_left (x ∷ leases) (suc hart) zero e = e (λ f. cc)
none_left (x ∷ leases) (suc hart) (suc other) e = none_left leases hart other (λ ne. e (λ f. ne (let same : other ≡ hart = cc in same)))

all_none : (leases : List (Option OpenView)) → ((hart : ℕ) → open_at leases hart ≡ None) → leases ≡ replicate (length leases) None
all_none [] none = refl
all_none (x ∷ leases) none =
    let first : x ≡ None = none zero in
    let rest : leases ≡ replicate (length leases) None = all_none leases (λ hart. none (suc hart)) in
    ap (λ (y : Option OpenView). y ∷ leases) first ∙ ap (λ (ys : List (Option OpenView)). None ∷ ys) rest

-- no lease is open, once the only one came back
pub idle_again : {M : Type 0} (c d : BookView M) (k : LeaseView) → IsAlone c k → d.leases ≡ slice_set c.leases k.hart None → IsIdle d
idle_again c d k alone is =
    is
    ∙ all_none (slice_set c.leases k.hart None) (λ other. none_left c.leases k.hart other (alone.alone other))
    ∙ ap (λ (n : ℕ). replicate n None) (length-set c.leases k.hart None ∙ alone.rows)

module _ {M : Type 0} (g : Ghosts M) (c d : BookView M) (k : LeaseView) where
  -- a lease of the book's own that was let go of ended
  pub ends_without : {A : Type 0} (r : Result A BookFault) → IsAlone c k →
      OnOk r (d ≡ record c { leases = slice_set c.leases k.hart None; mode = d.mode }) →
      OnOk r (g.ends c.mode k.hart (counts_of c.machine k.hart) k.taken d.mode) →
      IfErr r (λ f. (f ≡ Foreign) × (IsOurs c k → ⊥)) → EndsWithout g c k d
  ends_without (Ok x) alone book mode foreign = record { mode = mode; book = book }
  ends_without (Err f) alone book mode foreign = absurd (foreign.1 alone.ours)

  -- no lease is open, once the only one ended, or came back or ended
  pub idle_ended : IsAlone c k → EndsWithout g c k d → IsIdle d
  idle_ended alone ends = idle_again c d k alone (ap (λ (x : BookView M). x.leases) ends.book)

  pub idle_at_last : {A E : Type 0} (keep : Keep) (r : Result A E) → IsAlone c k → OnOk r (ComesBack g keep c k d) → OnErr r (EndsWithout g c k d) → IsIdle d
  idle_at_last keep (Ok x) alone back ends = idle_again c d k alone back.leases
  idle_at_last keep (Err x) alone back ends = idle_ended alone ends
