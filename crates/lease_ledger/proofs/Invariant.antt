-- What holds of a ledger after each call.
use Rattle.std.proofs.Common.{◌≡◌, ◌≢◌, inl, inr, ℕ, is_some, unwrap_or, ◌<◌, ◌≤◌, true, if◌then◌else◌, List, [], ◌++◌, Option, Some, None, Contains, refl}
use Rattle.std.proofs.Common.{sym, subst, arith, le_trans, le_refl, true≢false}
use Rattle.std.proofs.lemmas.List.Elements.{Contains-append_cases, Contains-append_left, Contains-append_right}
use Rattle.interleaving.specs.Lists.{put, EachPair}
use Rattle.interleaving.specs.Machine.{System, Machine, Turn, Step, counts, steps, Runs, run}
use Rattle.interleaving.specs.Log.{Edge, IsOrdered, EachMet}
use Rattle.interleaving.proofs.Put.{same_or_not, put_same, put_other}
use Rattle.crew_pages.specs.Rights.{Right, holds, owns}
use Rattle.crew_pages.specs.Page.{at_of, IsAmong, Scene, IsRightOf}
use Rattle.crew_pages.proofs.Laws.{keeps_going_on, one_writer}
use Rattle.lease_ledger.specs.Ledger.{Stub, Ledger}
use Rattle.lease_ledger.specs.Laws.{InOrder, IsInLog, IsWaiting}
use Rattle.lease_ledger.proofs.Stays.{Stays}
use Rattle.lease_ledger.proofs.Used.{wrote_in, touched_in}

-- the edges that wait in an open lease that has taken the page
abbrev pub pending : Option Stub → ℕ → List Edge
pending None page = []
pending (Some s) page = if is_some (s.read_at page) then s.edges else []

-- the edges that hold for a hart
abbrev pub own : List Edge → (ℕ → Option Stub) → ℕ → ℕ → List Edge
own edges stubs page h = edges ++ pending (stubs h) page

-- the count at which the open lease took the page to read and to write, else n
abbrev pub read_from : ℕ → Option Stub → ℕ → ℕ
read_from n None page = n
read_from n (Some s) page = unwrap_or (s.read_at page) n

abbrev pub write_from : ℕ → Option Stub → ℕ → ℕ
write_from n None page = n
write_from n (Some s) page = unwrap_or (s.write_at page) n

abbrev pub now : (ℕ → ℕ) → (ℕ → Option Stub) → ℕ → ℕ → ℕ
now settled stubs page h = read_from (settled h) (stubs h) page

abbrev pub late : (ℕ → ℕ) → (ℕ → Option Stub) → ℕ → ℕ → ℕ
late settled stubs page h = write_from (settled h) (stubs h) page

-- a count at which the lease stood: at first, and where it took a page
pub data StoodAt (settled : ℕ) (s : Stub) (k : ℕ) : Type 0 where
  AtFirst : k ≡ settled → StoodAt settled s k
  ToRead : (page : ℕ) → s.read_at page ≡ Some k → StoodAt settled s k
  ToWrite : (page : ℕ) → s.write_at page ≡ Some k → StoodAt settled s k

pub is_some_of : (o : Option ℕ) (k : ℕ) → o ≡ Some k → is_some o ≡ true
is_some_of None k e = absurd (cc)
is_some_of (Some x) k e = refl

pub some_of : (o : Option ℕ) → is_some o ≡ true → (k : ℕ) × (o ≡ Some k)
some_of None e = absurd (true≢false (sym e))
some_of (Some x) e = (x, refl)

pub or_le : (o : Option ℕ) (n k : ℕ) → n ≤ k → unwrap_or o n ≤ unwrap_or o k
or_le None n k le = le
or_le (Some x) n k le = le_refl x

pub none_in : {A : Type 0} (x : A) → Contains (let xs : List A = [] in xs) x → ⊥
none_in x (k, below, is) = omega arith

pub among_nil : (edges : List Edge) → IsAmong (edges ++ []) edges
among_nil edges e h = elim (Contains-append_cases edges [] e h) [ inl is ↦ is | inr none ↦ absurd (none_in e none) ]

pub among_append : (edges more some all : List Edge) → IsAmong edges more → IsAmong some all → IsAmong (edges ++ some) (more ++ all)
among_append edges more some all f g e h =
    elim (Contains-append_cases edges some e h) [ inl a ↦ Contains-append_left more all e (f e a) | inr b ↦ Contains-append_right more all e (g e b) ]

-- a fact of each hart, where one hart's is put
pub at_put : {A : Type 0} (P : ℕ → A → Type 0) (f : ℕ → A) (h : ℕ) (x : A) → P h x →
    ((g : ℕ) → h ≢ g → P g (f g)) → (g : ℕ) → P g (put f h x g)
at_put P f h x mine others g =
    elim (same_or_not h g) [
      | inl same ↦ subst (P g) (sym (put_same f h g x same)) (subst (λ g. P g x) same mine)
      | inr ne ↦ subst (P g) (sym (put_other f h g x ne)) (others g ne)
    ]

-- the same of those that are there
pub some_put : {A : Type 0} (f : ℕ → Option A) (h : ℕ) (o : Option A) (P : ℕ → A → Type 0) → ((x : A) → o ≡ Some x → P h x) →
    ((g : ℕ) (x : A) → h ≢ g → f g ≡ Some x → P g x) → (g : ℕ) (x : A) → put f h o g ≡ Some x → P g x
some_put f h o P mine others g x is =
    at_put (λ g o. (x : _) → o ≡ Some x → P g x) f h o mine (λ g ne x. others g x ne) g x is

module _ {Hart Page Input : Type 0} (system : System Hart Page Input) (crew : ℕ) where
  abbrev pub scene : Machine Hart Page → List (Step Hart Page Input) → List Edge → (ℕ → Option Stub) → ℕ → Scene
  scene m past edges stubs page =
      record {
        crew = crew;
        edges = edges;
        settled = counts system m;
        own = own edges stubs page;
        now = now (counts system m) stubs page;
        late = late (counts system m) stubs page;
        wrote = wrote_in system past page;
        touched = touched_in system past page;
      }

  -- the page's right says of the history what it is to say
  abbrev pub RightAt : Machine Hart Page → List (Step Hart Page Input) → List Edge → (ℕ → Option Stub) → ℕ → Right → Type 0
  RightAt m past edges stubs page r = IsRightOf (scene m past edges stubs page) r

  -- an open lease has what its stub says
  pub record StubOk (m : Machine Hart Page) (rights : ℕ → Right) (h : ℕ) (s : Stub) : Type 0 where
    pub is_hart : h < crew
    pub edges : (e : Edge) → Contains s.edges e → IsWaiting system crew m h e
    pub in_order : EachPair InOrder s.edges
    pub stood : (e : Edge) → Contains s.edges e → StoodAt (counts system m h) s e.step
    pub held : (page k : ℕ) → s.read_at page ≡ Some k → (holds (rights page) h ≡ true) × (counts system m h ≤ k)
    pub owned : (page k : ℕ) → s.write_at page ≡ Some k → (owns (rights page) h ≡ true) × (at_of (rights page) ≤ k)
    pub both : (page k : ℕ) → s.write_at page ≡ Some k → is_some (s.read_at page) ≡ true

  pub record LedgerOk (start m : Machine Hart Page) (turns : List (Turn Input)) (edges : List Edge) (rights : ℕ → Right)
      (stubs : ℕ → Option Stub) : Type 0 where
    pub runs : Runs system start turns
    pub machine : m ≡ run system start turns
    pub log : (e : Edge) → Contains edges e → IsInLog system crew start m e
    pub in_order : EachPair InOrder edges
    pub met : EachMet edges (counts system start) (steps system start turns)
    pub ordered : IsOrdered system edges (steps system start turns)
    pub page : (page : ℕ) → RightAt m (steps system start turns) edges stubs page (rights page)
    pub stub : (h : ℕ) (s : Stub) → stubs h ≡ Some s → StubOk m rights h s

  abbrev pub Ok : Machine Hart Page → Ledger Hart Page Input → Type 0
  Ok start b = LedgerOk start b.machine b.journal b.edges b.rights b.stubs

  -- rights change, and stay with the lease where it took them
  pub stub_rights : (m : Machine Hart Page) (rights next : ℕ → Right) (h : ℕ) (s : Stub) → StubOk m rights h s →
      ((page : ℕ) → is_some (s.read_at page) ≡ true → Stays h (rights page) (next page)) → StubOk m next h s
  stub_rights m rights next h s ok stay =
      record {
        is_hart = ok.is_hart;
        edges = ok.edges;
        in_order = ok.in_order;
        stood = ok.stood;
        held = λ page k is. let p = ok.held page k is in ((stay page (is_some_of (s.read_at page) k is)).held p.0, p.1);
        owned =
            λ page k is.
            let p = ok.owned page k is in
            let t = stay page (ok.both page k is) in
            (t.owned p.0, le_trans (t.at p.0) p.1);
        both = ok.both;
      }

  -- one hart's stub changes
  pub stub_put : (m : Machine Hart Page) (past : List (Step Hart Page Input)) (edges : List Edge) (stubs : ℕ → Option Stub) (h : ℕ) (o : Option Stub)
      (page : ℕ) (r : Right) → RightAt m past edges stubs page r →
      (holds r h ≡ true → IsAmong (own edges stubs page h) (edges ++ pending o page)) →
      (holds r h ≡ true → now (counts system m) stubs page h ≤ read_from (counts system m h) o page) →
      (holds r h ≡ true → late (counts system m) stubs page h ≤ write_from (counts system m h) o page) → RightAt m past edges (put stubs h o) page r
  stub_put m past edges stubs h o page r right some later latest =
      keeps_going_on (scene m past edges stubs page) (scene m past edges (put stubs h o) page) r right
      (
      record {
        crew = refl;
        edges = λ e i. i;
        settled = λ g. le_refl (counts system m g);
        own = at_put (λ g q. holds r g ≡ true → IsAmong (own edges stubs page g) (edges ++ pending q page)) stubs h o some (λ g ne held e i. i);
        now =
            at_put (λ g q. holds r g ≡ true → now (counts system m) stubs page g ≤ read_from (counts system m g) q page) stubs h o later
            (λ g ne held. le_refl (now (counts system m) stubs page g));
        late =
            at_put (λ g q. holds r g ≡ true → late (counts system m) stubs page g ≤ write_from (counts system m g) q page) stubs h o latest
            (λ g ne held. le_refl (late (counts system m) stubs page g));
        wrote = λ a w. inl w;
        touched = λ a t. inl t;
      }
      )

  -- what one open lease may write, another has not taken
  pub owned_apart : (start : Machine Hart Page) (b : Ledger Hart Page Input) → Ok start b → (h g : ℕ) (s t : Stub) → b.stubs h ≡ Some s →
      b.stubs g ≡ Some t → h ≢ g → (page k : ℕ) → s.write_at page ≡ Some k → is_some (t.read_at page) ≡ true → ⊥
  owned_apart start b ok h g s t is_s is_t ne page k writes takes =
      let (j, reads) = some_of (t.read_at page) takes in
      ne (one_writer (b.rights page) h g ((ok.stub h s is_s).owned page k writes).0 ((ok.stub g t is_t).held page j reads).0)
