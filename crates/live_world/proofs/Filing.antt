-- What a keeper's files in memory are behind what is done with them.
use Rattle.std.proofs.Common.{◌≡◌, ◌⊎◌, ◌++◌, ◌+◌, ◌≤◌, ℕ, Bool, true, false, min, max, List, [], ◌∷◌, length, take, drop, Option, inl, inr, Result, Ok, Err, IfErr, OnOk, OnErr, refl, sym, subst, ap, ◌∙◌, arith, append-nil}
use Rattle.std.proofs.lemmas.Bool.{cases_order}
use Rattle.std.proofs.lemmas.List.{take_all, take-take, take-append-le, take-append-drop, length-take}
use Rattle.stations.specs.Acts.{Does, Act, SawLog, CutTo, Added, Synced, SawFence, Fenced, Failed}
use Rattle.stations.specs.Handshake.{Did, after}
use Rattle.stations.specs.declared.faults.FilesFault.{FilesFault}
use Rattle.keeper_disks.specs.Disks.{Hand}
use Rattle.live_world.specs.Passages.{IsDone, IsNothing}
use Rattle.live_world.specs.Shelves.{ReadView, ShelfView, Besides, Still, Then, HandDid, Crashed, HandDoes, HasCrashed, files_of}
use Rattle.live_world.specs.declared.event.HandAct.{HandAct}
use Rattle.live_world.specs.declared.fault.EventFault.{EventFault}
use Rattle.live_world.specs.declared.files.Turn.{Turn}
use Rattle.live_world.specs.declared.files.Turn.TheVariants as turn
use Rattle.live_world.specs.machinery.Passing.{Tells}
use Rattle.live_world.proofs.Telling.{tells, tells_two}

-- files with these bytes, of which so many are on disk
abbrev pub shelf_of : List ℕ → ℕ → ℕ → Hand → Option ReadView → Bool → ShelfView
shelf_of log safe fence hand read crashed = record { files = files_of log safe fence; hand = hand; read = read; crashed = crashed }

-- a failure changes nothing
pub failed : (s : ShelfView) (fault : FilesFault) → IsDone s (Failed fault) s
failed s fault = record { seen = tt; lives = λ _. tt; rest = refl }

lives_on : (crashed : Bool) (P : Type 0) → crashed ≡ false → crashed ≡ true → P
lives_on crashed P lives gone = absurd (cc)

-- what is seen changes nothing
pub saw_log : (s : ShelfView) (bytes : List ℕ) → s.crashed ≡ false → bytes ≡ s.files.log → IsDone s (SawLog bytes) s
saw_log s bytes lives same = record { seen = same; lives = lives_on s.crashed (IsNothing (SawLog bytes)) lives; rest = refl }

pub saw_fence : (s : ShelfView) (fence : ℕ) → s.crashed ≡ false → fence ≡ s.files.fence → IsDone s (SawFence fence) s
saw_fence s fence lives same = record { seen = same; lives = lives_on s.crashed (IsNothing (SawFence fence)) lives; rest = refl }

either_below : (a b : ℕ) → (a ≤ b) ⊎ (b ≤ a)
either_below a b = elim (cases_order a b) [
  | inl same ↦ inl (omega arith)
  | inr other ↦ elim other [ inl below ↦ inl (omega arith) | inr above ↦ inr (omega arith) ]
]

-- the shorter of two cuts
cut_both : (log : List ℕ) (safe size : ℕ) → take (min safe size) (take size log) ≡ take size (take safe log)
cut_both log safe size =
    elim (either_below size safe) [
      | inl below ↦
          let least : min safe size ≡ size = omega arith in
          rw (take-take size safe log below) (rw least (take_all size (take size log) (omega (arith, length-take size log))))
      | inr above ↦
          let least : min safe size ≡ safe = omega arith in
          rw (least, take-take safe size log above) (sym (take_all size (take safe log) (omega (arith, length-take safe log))))
    ]

pub cut_done : (log cut : List ℕ) (safe size least fence : ℕ) (hand : Hand) (read : Option ReadView) (crashed : Bool) → cut ≡ take size log →
    least ≡ min safe size → crashed ≡ false →
    IsDone (shelf_of log safe fence hand read crashed) (CutTo size) (shelf_of cut least fence hand read crashed)
cut_done log cut safe size least fence hand read crashed is less lives = record {
  seen = tt;
  lives = lives_on crashed (IsNothing (CutTo size)) lives;
  rest =
      ap (λ (x : List ℕ). record { files = record { log = x; safe = take least x; fence = fence }; hand = hand; read = read; crashed = crashed }) is
      ∙ ap (λ (x : List ℕ). record { files = record { log = take size log; safe = x; fence = fence }; hand = hand; read = read; crashed = crashed })
      (ap (λ (n : ℕ). take n (take size log)) less ∙ cut_both log safe size);
}

-- what is added stands behind what is on disk
pub appended : (old : ShelfView) (log more bytes : List ℕ) (safe fence : ℕ) (hand : Hand) (read : Option ReadView) (crashed : Bool) →
    shelf_of log safe fence hand read crashed ≡ old → more ≡ log ++ bytes → safe ≤ length log →
    shelf_of more safe fence hand read crashed ≡ record old { files = after old.files (Did (Added bytes)) }
appended old log more bytes safe fence hand read crashed was is within =
    ap (λ (x : List ℕ). shelf_of x safe fence hand read crashed) is
    ∙ ap (λ (x : List ℕ). record { files = record { log = log ++ bytes; safe = x; fence = fence }; hand = hand; read = read; crashed = crashed })
    (take-append-le safe log bytes within)
    ∙ ap (λ (s : ShelfView). record s { files = after s.files (Did (Added bytes)) }) was

-- adding nothing
add_nothing : (s : ShelfView) → IsDone s (Added []) s
add_nothing s = record {
  seen = tt;
  lives = λ _. refl;
  rest = ap (λ (x : List ℕ). record s { files = record s.files { log = x } }) (sym (append-nil s.files.log));
}

pub sync_done : (log : List ℕ) (safe size fence : ℕ) (hand : Hand) (read : Option ReadView) (crashed : Bool) → size ≡ length log → crashed ≡ false →
    IsDone (shelf_of log safe fence hand read crashed) Synced (shelf_of log size fence hand read crashed)
sync_done log safe size fence hand read crashed whole lives = record {
  seen = tt;
  lives = lives_on crashed (IsNothing Synced) lives;
  rest =
      ap (λ (x : List ℕ). record { files = record { log = log; safe = x; fence = fence }; hand = hand; read = read; crashed = crashed })
      (take_all size log (omega arith));
}

pub fence_done : (log : List ℕ) (safe fence term now : ℕ) (hand : Hand) (read : Option ReadView) (crashed : Bool) → now ≡ max fence term → crashed ≡ false →
    IsDone (shelf_of log safe fence hand read crashed) (Fenced term) (shelf_of log safe now hand read crashed)
fence_done log safe fence term now hand read crashed is lives = record {
  seen = tt;
  lives = lives_on crashed (IsNothing (Fenced term)) lives;
  rest = ap (λ (x : ℕ). shelf_of log safe x hand read crashed) is;
}

-- all of the log is on disk
pub brought : (old : ShelfView) (log : List ℕ) (safe size fence : ℕ) (hand : Hand) (read : Option ReadView) (crashed : Bool) →
    shelf_of log safe fence hand read crashed ≡ old → size ≡ length log →
    shelf_of log size fence hand read crashed ≡ record old { files = after old.files (Did Synced) }
brought old log safe size fence hand read crashed was whole =
    ap (λ (x : List ℕ). record { files = record { log = log; safe = x; fence = fence }; hand = hand; read = read; crashed = crashed })
    (take_all size log (omega arith))
    ∙ ap (λ (s : ShelfView). record s { files = after s.files (Did Synced) }) was

-- the fence is put
pub fence_put : (old : ShelfView) (log : List ℕ) (safe fence term now : ℕ) (hand : Hand) (read : Option ReadView) (crashed : Bool) →
    shelf_of log safe fence hand read crashed ≡ old → now ≡ max fence term →
    shelf_of log safe now hand read crashed ≡ record old { files = after old.files (Did (Fenced term)) }
fence_put old log safe fence term now hand read crashed was is =
    ap (λ (x : ℕ). shelf_of log safe x hand read crashed) is ∙ ap (λ (s : ShelfView). record s { files = after s.files (Did (Fenced term)) }) was

-- ---- what is told of it

-- of an act of files that stood so
pub tells_as : (a m n b : ShelfView) (act : Act) → Besides a m → n ≡ m → IsDone n act b → Does (Tells a) (Tells b) (act ∷ [])
tells_as a m n b act besides same is = tells besides (subst (λ (x : ShelfView). IsDone x act b) same is)

pub lives_as : (m n : ShelfView) → n ≡ m → m.crashed ≡ false → n.crashed ≡ false
lives_as m n same lives = ap (λ (x : ShelfView). x.crashed) same ∙ lives

-- the act is the keeper's next one
pub does_turn : (t : Turn) → ((n : ℕ) → t ≡ turn.Fails n → ⊥) → t ≡ turn.Does
does_turn turn.Does never = refl
does_turn (turn.Fails n) never = absurd (never n refl)

-- whatever it fails with
pub if_err : {A E : Type 0} (r : Result A E) (P : E → Type 0) → ((e : E) → P e) → IfErr r P
if_err (Ok a) P each = tt
if_err (Err e) P each = each e

pub added_all : (a m b : ShelfView) (bytes : List ℕ) → Besides a m → m.crashed ≡ false → b ≡ record m { files = after m.files (Did (Added bytes)) } →
    Does (Tells a) (Tells b) (Added bytes ∷ [])
added_all a m b bytes besides lives grown =
    let is : IsDone m (Added bytes) b = record { seen = tt; lives = lives_on m.crashed (bytes ≡ []) lives; rest = grown } in
    tells besides is

-- of these bytes a beginning was added, and then it failed
abbrev pub AddsFront : ShelfView → ShelfView → List ℕ → FilesFault → Type 0
AddsFront a b bytes fault =
    (front : List ℕ) × (rest : List ℕ) × (bytes ≡ front ++ rest) × Does (Tells a) (Tells b) (Added front ∷ Failed fault ∷ [])

pub added_none : (a m b : ShelfView) (bytes : List ℕ) → Besides a m → b ≡ m → (fault : FilesFault) → AddsFront a b bytes fault
added_none a m b bytes besides same fault =
    ([], bytes, refl, tells_two besides (subst (λ (x : ShelfView). IsDone m (Added []) x) (sym same) (add_nothing m)) (failed b fault))

pub added_front : (a m b : ShelfView) (bytes front rest : List ℕ) → Besides a m → bytes ≡ front ++ rest → m.crashed ≡ false →
    b ≡ record m { files = after m.files (Did (Added front)) } → (fault : FilesFault) → AddsFront a b bytes fault
added_front a m b bytes front rest besides parts lives grown fault =
    let is : IsDone m (Added front) b = record { seen = tt; lives = lives_on m.crashed (front ≡ []) lives; rest = grown } in
    (front, rest, parts, tells_two besides is (failed b fault))

-- ---- crashes

crash_leaves : (log : List ℕ) (safe size fence : ℕ) (hand : Hand) (read : Option ReadView) (crashed : Bool) → safe ≤ size →
    HasCrashed (shelf_of log safe fence hand read crashed) (shelf_of (take size log) safe fence hand read true)
crash_leaves log safe size fence hand read crashed above = record {
  left = take size log;
  beginning = (drop size log, sym (take-append-drop size log));
  safe = (
    drop safe (take size log),
    sym (ap (λ (x : List ℕ). x ++ drop safe (take size log)) (sym (take-take safe size log above)) ∙
        take-append-drop safe (take size log)),
  );
  rest =
      ap (λ (x : List ℕ). record { files = record { log = take size log; safe = x; fence = fence }; hand = hand; read = read; crashed = true })
      (take-take safe size log above);
}

pub crash_done : (old : ShelfView) (log left : List ℕ) (safe size fence : ℕ) (hand : Hand) (read : Option ReadView) (crashed : Bool) →
    shelf_of log safe fence hand read crashed ≡ old → left ≡ take size log → safe ≤ size → HasCrashed old (shelf_of left safe fence hand read true)
crash_done old log left safe size fence hand read crashed was is above =
    subst (λ (x : ShelfView). HasCrashed x (shelf_of left safe fence hand read true)) was
    (subst (λ (x : List ℕ). HasCrashed (shelf_of log safe fence hand read crashed) (shelf_of x safe fence hand read true)) (sym is)
    (crash_leaves log safe size fence hand read crashed above))

-- ---- what happens beside

pub hand_turn : {A : Type 0} (s t now u : ShelfView) (act : HandAct) (r : Result A EventFault) → Besides s t → now ≡ t → OnOk r (HandDoes act now u) →
    OnErr r (u ≡ now) → Besides s u
hand_turn s t now u act (Ok a) besides same does not =
    Then besides (HandDid act u (subst (λ (x : ShelfView). HandDoes act x u) same does))
hand_turn s t now u act (Err e) besides same does not = subst (λ (x : ShelfView). Besides s x) (sym (not ∙ same)) besides

pub crash_turn : (s t now u : ShelfView) → Besides s t → now ≡ t → HasCrashed now u → Besides s u
crash_turn s t now u besides same crashed = Then besides (Crashed u (subst (λ (x : ShelfView). HasCrashed x u) same crashed))

pub besides_same : (s t : ShelfView) → t ≡ s → Besides s t
besides_same s t same = subst (λ (x : ShelfView). Besides s x) (sym same) Still

pub besides_then : {s t u : ShelfView} → Besides s t → Besides t u → Besides s u
besides_then a Still = a
besides_then a (Then b beside) = Then (besides_then a b) beside
