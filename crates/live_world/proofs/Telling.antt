-- What files in memory tell is what passed.
use Rattle.std.proofs.Common.{◌≡◌, ◌++◌, ℕ, Bool, true, false, List, [], ◌∷◌, Option, None, Some, refl, sym, ap, ◌∙◌, append_assoc, append-nil}
use Rattle.stations.specs.Acts.{Act, Does}
use Rattle.stations.proofs.Does.{does_two}
use Rattle.keeper_disks.specs.Disks.{Hand, Nobody, Saw, HasFenced}
use Rattle.live_world.specs.Shelves.{ReadView, ShelfView, Besides, Still, Then}
use Rattle.live_world.specs.Passages.{IsDone, Passes, Begins, ThenDid, ThenBeside}
use Rattle.live_world.specs.machinery.Passing.{Tells, standing, hand_told, crash_told, read_told}

-- ---- each part of how files stood can be read off

hand_read : (h k : Hand) → hand_told h ≡ hand_told k → h ≡ k
hand_read Nobody Nobody e = refl
hand_read Nobody (Saw last) e = cc
hand_read Nobody (HasFenced term) e = cc
hand_read (Saw last) Nobody e = cc
hand_read (Saw last) (Saw other) e = cc
hand_read (Saw last) (HasFenced term) e = cc
hand_read (HasFenced term) Nobody e = cc
hand_read (HasFenced term) (Saw last) e = cc
hand_read (HasFenced term) (HasFenced other) e = cc

crash_read : (b c : Bool) → crash_told b ≡ crash_told c → b ≡ c
crash_read true true e = refl
crash_read true false e = cc
crash_read false true e = cc
crash_read false false e = refl

-- what was read, and what is told behind it
read_read : (r q : Option ReadView) (xs ys : List Act) → read_told r ++ xs ≡ read_told q ++ ys → (r ≡ q) × (xs ≡ ys)
read_read None None xs ys e = (refl, cc)
read_read None (Some q) xs ys e = (cc, cc)
read_read (Some r) None xs ys e = (cc, cc)
read_read (Some r) (Some q) xs ys e =
    let term : r.term ≡ q.term = cc in
    let log : r.log ≡ q.log = cc in
    (ap (λ (n : ℕ). Some (record { term = n; log = r.log })) term ∙ ap (λ (l : List ℕ). Some (record { term = q.term; log = l })) log, cc)

same_shelf : (s t : ShelfView) → s.files.log ≡ t.files.log → s.files.safe ≡ t.files.safe → s.files.fence ≡ t.files.fence → s.hand ≡ t.hand →
    s.crashed ≡ t.crashed → s.read ≡ t.read → s ≡ t
same_shelf s t log safe fence hand crashed read =
    ap (λ (x : List ℕ). record s { files = record s.files { log = x } }) log
    ∙ ap (λ (x : List ℕ). record s { files = record s.files { log = t.files.log; safe = x } }) safe
    ∙ ap (λ (x : ℕ). record s { files = record t.files { fence = x } }) fence
    ∙ ap (λ (x : Hand). record s { files = t.files; hand = x }) hand
    ∙ ap (λ (x : Bool). record t { read = s.read; crashed = x }) crashed
    ∙ ap (λ (x : Option ReadView). record t { read = x }) read

stood : (s t : ShelfView) (xs ys : List Act) → standing s ++ xs ≡ standing t ++ ys → (s ≡ t) × (xs ≡ ys)
stood s t xs ys e =
    let hands : s.hand ≡ t.hand = hand_read s.hand t.hand (cc) in
    let crashes : s.crashed ≡ t.crashed = crash_read s.crashed t.crashed (cc) in
    let reads : (s.read ≡ t.read) × (xs ≡ ys) = read_read s.read t.read xs ys (cc) in
    (same_shelf s t (cc) (cc) (cc) hands crashes reads.0, reads.1)

-- ---- what is told behind that is what passed

told_passed : {a b : ShelfView} {next : List Act} → Tells b (standing a ++ next) → Passes a next b
told_passed {a} {b} {next} (s, acts, e, passes) =
    let same : (a ≡ s) × (next ≡ acts) = stood a s next acts e in
    rw (same.0, same.1) passes

pub passed : {a b : ShelfView} {next : List Act} → Does (Tells a) (Tells b) next → Passes a next b
passed {a} {b} {next} does = told_passed (does (standing a) (a, [], sym (append-nil (standing a)), Begins))

-- ---- what is done is told

pub besides_pass : {s t u : ShelfView} {acts : List Act} → Passes s acts t → Besides t u → Passes s acts u
besides_pass p Still = p
besides_pass p (Then besides beside) = ThenBeside (besides_pass p besides) beside

told_more : (a m b : ShelfView) (done : List Act) (act : Act) → Besides a m → IsDone m act b → Tells a done → Tells b (done ++ act ∷ [])
told_more a m b done act besides is (s, acts, e, passes) = (
  s,
  acts ++ act ∷ [],
  ap (λ (l : List Act). l ++ act ∷ []) e ∙ append_assoc (standing s) acts (act ∷ []),
  ThenDid (besides_pass passes besides) act is,
)

-- an act behind what happened beside it
pub tells : {a m b : ShelfView} {act : Act} → Besides a m → IsDone m act b → Does (Tells a) (Tells b) (act ∷ [])
tells {a} {m} {b} {act} besides is = λ done told. told_more a m b done act besides is told

-- and one more directly behind it
pub tells_two : {a m n b : ShelfView} {x y : Act} → Besides a m → IsDone m x n → IsDone n y b → Does (Tells a) (Tells b) (x ∷ y ∷ [])
tells_two {a} {m} {n} {b} {x} {y} besides is then = does_two (Tells a) (Tells n) (Tells b) x y (tells besides is) (tells Still then)
