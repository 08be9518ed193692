-- The headers of a work that comes back land, one after another: each in a list of its port, or in a note.
use Rattle.std.proofs.Common.{◌≡◌, inl, inr, ℕ, suc, ◌≤◌, Bool, true, false, not, ◌&&◌, ◌||◌, List, [], ◌∷◌, ◌++◌, length, map, slice_get, Option, Some, None, refl, sym, ◌∙◌, ap, subst, append-nil, append_assoc, arith}
use Rattle.omx_types.specs.declared.fault.PartFault.{PartFault}
use Rattle.omx_types.specs.declared.command.Note.{Note}
use Rattle.omx_types.specs.declared.command.Note.TheVariants.{Told, EmptyDone, FillDone}
use Rattle.part_api.specs.Terms.{Terms}
use Rattle.part_api.specs.Streams.{Incoming}
use Rattle.il_machine.specs.declared.port.Mark.{Mark}
use Rattle.il_machine.specs.declared.port.PortKey.{PortKey}
use Rattle.il_machine.specs.declared.port.Port.{Port}
use Rattle.il_machine.specs.declared.header.HeaderState.{HeaderState}
use Rattle.il_machine.specs.declared.header.Owner.TheVariants as owners
use Rattle.il_machine.specs.declared.header.Spot.{Spot}
use Rattle.il_machine.specs.declared.header.Spot.TheVariants.{TodoFront, DoneBack}
use Rattle.il_machine.specs.World.{Component, HeaderRecord, Load, Picked, Stream, Work, World, number_of, port_of, stream_of}
use Rattle.il_machine.specs.Headers.{seen, find_header, weight, is_for, is_work_of, changed, given_to, loaded, put, put_at}
use Rattle.il_machine.specs.Ports.{is_joined}
use Rattle.il_machine.specs.Flow.{done_note}
use Rattle.il_machine.specs.Census.{note_numbers, times}
use Rattle.il_machine.specs.Claims.{CarriedHeader, carried, terms_in}
use Rattle.il_machine.specs.Stepping.{WorkDone, is_in, stepped, IsStepBy, IsDoneOf, IsDoneBy}
use Rattle.il_machine.specs.Finishing.{Landing, Again, Onward, Noted, landing, is_finished, is_returning, is_tunnelled, is_an_input, tells_mark, load_after, key_at, landed_at, all_landed, mark_note, landing_note, notes_of_header, notes_of_headers}
use Rattle.il_machine.specs.Sound.{IsMadeFor, IsPickedFor}
use Rattle.machine_laws.proofs.Finding.{either, found_number}
use Rattle.machine_laws.proofs.Keys.{for_which, there_is}
use Rattle.machine_laws.proofs.Replacing.{replaced_changed, replaced_put}
use Rattle.machine_laws.proofs.Ties.{Tied, IsSet, made_peer, other_side, for_client}
use Rattle.machine_laws.proofs.Works.{worked_at, made_at, made_there}
use Rattle.machine_laws.proofs.Headers.{noticed_found, work_is, not_out}
use Rattle.machine_laws.proofs.Accepting.{holds_there}
use Rattle.machine_laws.proofs.ClientHeaders.{unlinked}
use Rattle.machine_laws.proofs.Listed.{header_there, weighs_one, weight_below, times_self}
use Rattle.machine_laws.proofs.Shifting.{Shifted, shifted_one, shift_in, shift_noted}

-- ---- the headers that come back are those of the work

-- one by one of the same port and number
abbrev pub AreOf : List Picked → List CarriedHeader → Type 0
AreOf [] [] = Unit {0}
AreOf (p ∷ ps) (x ∷ xs) = (x.port ≡ p.port) × (x.header.number ≡ p.number) × AreOf ps xs
AreOf _ _ = ⊥

pub carried_of : (hs : List HeaderRecord) (k : ℕ) (ps : List Picked) → ((j : ℕ) (p : Picked) → slice_get ps j ≡ Some p → IsPickedFor (seen hs) k p) → AreOf ps (carried hs ps)
carried_of hs k [] h = tt
carried_of hs k (p ∷ ps) h =
    let r = header_there (find_header p.number hs) (λ s. is_for (record { component = k; port = p.port }) s ≡ true) (h 0 p refl) in
    rw r.1 (refl, found_number p.number hs r.0 r.1, carried_of hs k ps (λ j q e. h (suc j) q e))

pub mapped_of : (f : CarriedHeader → CarriedHeader) → ((x : CarriedHeader) → (f x).port ≡ x.port) → ((x : CarriedHeader) → (f x).header.number ≡ x.header.number) → (ps : List Picked) (xs : List CarriedHeader) → AreOf ps xs → AreOf ps (map f xs)
mapped_of f a b [] [] A = tt
mapped_of f a b [] (x ∷ xs) A = absurd A
mapped_of f a b (p ∷ ps) [] A = absurd A
mapped_of f a b (p ∷ ps) (x ∷ xs) A = (a x ∙ A.0, b x ∙ A.1, mapped_of f a b ps xs A.2)

pub stepped_number : (t : Terms) (frames : ℕ) (came : Incoming) (over : Bool) (x : CarriedHeader) → (stepped t frames came over x).header.number ≡ x.header.number
stepped_number t frames came over x = either (is_in t x) (λ h. rw h refl) (λ h. rw h refl)

step_of : (o : Option PartFault) (t : Terms) (s : Stream) (ps : List Picked) (headers : List CarriedHeader) (done : WorkDone) → IsStepBy o t s headers done → AreOf ps headers → AreOf ps done.headers
step_of None t s ps headers done h A =
    let e = h.3 in
    rw e (mapped_of _ (λ x. refl) (stepped_number t _ _ _) ps headers A)
step_of (Some fault) t s ps headers done h A = rw (h.2) A

pub done_of : (w : World) (c : Component) (work : Work) (done : WorkDone) → IsDoneOf w c work done → work.announces ≡ false → ((j : ℕ) (p : Picked) → slice_get work.headers j ≡ Some p → IsPickedFor (seen w.headers) (number_of c) p)
    → AreOf work.headers done.headers
done_of w c work done D f h =
    let e : IsDoneBy false w c work done = rw f at D in
    let s = there_is (stream_of done.component w) _ e in
    step_of done.fault (terms_in c work) s.0 work.headers (carried w.headers work.headers) done s.2 (carried_of w.headers (number_of c) work.headers h)

pub numbers_of : (ps : List Picked) (xs : List CarriedHeader) → AreOf ps xs → map (λ p. p.number) ps ≡ map (λ x. x.header.number) xs
numbers_of [] [] A = refl
numbers_of [] (x ∷ xs) A = absurd A
numbers_of (p ∷ ps) [] A = absurd A
numbers_of (p ∷ ps) (x ∷ xs) A = let i = numbers_of ps xs A.2 in let n = A.1 in cc

pub length_of : (ps : List Picked) (xs : List CarriedHeader) → AreOf ps xs → length xs ≡ length ps
length_of [] [] A = refl
length_of [] (x ∷ xs) A = absurd A
length_of (p ∷ ps) [] A = absurd A
length_of (p ∷ ps) (x ∷ xs) A = ap suc (length_of ps xs A.2)

-- each header was made for its port
abbrev pub AreMade : ℕ → List HeaderRecord → List CarriedHeader → Type 0
AreMade k hs [] = Unit {0}
AreMade k hs (x ∷ xs) = (made_at (record { component = k; port = x.port }) x.header.number hs ≡ true) × AreMade k hs xs

pub made_of : (hs : List HeaderRecord) (k : ℕ) (ps : List Picked) (xs : List CarriedHeader) → AreOf ps xs → ((j : ℕ) (p : Picked) → slice_get ps j ≡ Some p → IsPickedFor (seen hs) k p) → AreMade k hs xs
made_of hs k [] [] A h = tt
made_of hs k [] (x ∷ xs) A h = absurd A
made_of hs k (p ∷ ps) [] A h = absurd A
made_of hs k (p ∷ ps) (x ∷ xs) A h = (
  rw (A.0, A.1) (made_there ((seen hs).header p.number) (record { component = k; port = p.port }) (h 0 p refl)),
  made_of hs k ps xs A.2 (λ j q e. h (suc j) q e),
)

-- ---- the numbers in their notes

pub numbers_append : (xs ys : List Note) → note_numbers (xs ++ ys) ≡ note_numbers xs ++ note_numbers ys
numbers_append [] ys = refl
numbers_append (Told event ∷ xs) ys = numbers_append xs ys
numbers_append (EmptyDone n ∷ xs) ys = ap (λ (ns : List ℕ). n ∷ ns) (numbers_append xs ys)
numbers_append (FillDone n ∷ xs) ys = ap (λ (ns : List ℕ). n ∷ ns) (numbers_append xs ys)

abbrev landed_number : Landing → ℕ → List ℕ
landed_number Noted n = n ∷ []
landed_number _ n = []

done_number : (b : Bool) (n : ℕ) → note_numbers (done_note b n ∷ []) ≡ n ∷ []
done_number true n = refl
done_number false n = refl

landing_numbers : (l : Landing) (c : Component) (x : CarriedHeader) → note_numbers (landing_note l c x) ≡ landed_number l x.header.number
landing_numbers Again c x = refl
landing_numbers Onward c x = refl
landing_numbers Noted c x = done_number (is_an_input c x) x.header.number

mark_numbers : (o : Option Mark) → note_numbers (mark_note o) ≡ []
mark_numbers None = refl
mark_numbers (Some mark) = refl

header_numbers : (c : Component) (s : Stream) (done : WorkDone) (x : CarriedHeader) → note_numbers (notes_of_header c s done x) ≡ landed_number (landing c s done x) x.header.number
header_numbers c s done x = either (tells_mark c s done x)
    (λ t. rw t (numbers_append (mark_note x.header.mark) (landing_note (landing c s done x) c x) ∙ rw (mark_numbers x.header.mark) (landing_numbers (landing c s done x) c x)))
    (λ f. rw f (landing_numbers (landing c s done x) c x))

-- ---- one header lands

-- the port that a header was made for is there
pub port_for : (ports : PortKey → Option Port) (hs : List HeaderRecord) (key : PortKey) (s : HeaderState) → Tied ports hs → IsSet ports s → is_for key s ≡ true → (p : Port) × (ports key ≡ Some p)
port_for ports hs key s T S f =
    let o = there_is (ports s.port) (IsMadeFor s.peer) S.port in
    elim (for_which key s f) [
      | inl h ↦ (o.0, ap ports (sym h) ∙ o.1)
      | inr h ↦
          let k = made_peer s.peer key o.0 o.2 h in
          let q = other_side ports hs s.port o.0 k.0 T o.1 k.1 in
          (q.0, ap ports (sym k.2) ∙ q.1)
    ]

-- a header that goes to a note isn't one of a tunnel
noted_apart : (tunnelled finished returning : Bool) → (l : Landing) → (not tunnelled && (finished || returning)) ≡ true → tunnelled ≡ false
noted_apart true finished returning l h = absurd cc
noted_apart false finished returning l h = refl

noted_client : (c : Component) (s : Stream) (done : WorkDone) (x : CarriedHeader) → landing c s done x ≡ Noted → is_tunnelled c x ≡ false
noted_client c s done x h = either (not (is_tunnelled c x) && (is_finished c s done x || is_returning c x))
    (λ t. noted_apart (is_tunnelled c x) (is_finished c s done x) (is_returning c x) Noted t)
    (λ f. either (is_finished c s done x && not (is_returning c x))
    (λ t. let a : Onward ≡ Noted = rw (f, t) at h in absurd cc)
    (λ g. let a : Again ≡ Noted = rw (f, g) at h in absurd cc))

module _ (ports : PortKey → Option Port) (c : Component) (there : (port : ℕ) (p : Port) → ports (record { component = number_of c; port = port }) ≡ Some p → port_of c port ≡ Some p) (hs : List HeaderRecord) where
  -- the front header of the work
  pub front_is : (ks : List HeaderRecord) (notes work : List ℕ) (n : ℕ) → Shifted ports (number_of c) hs notes (n ∷ work) ks
      → (r : HeaderRecord) × (find_header n ks ≡ Some r) × (r.state.owner ≡ owners.Work (number_of c)) × (times n notes ≡ 0) × (times n (n ∷ work) ≡ 1)
  front_is ks notes work n A =
      let k : ℕ = number_of c in
      let a = A.worked n in
      let b = times_self n work in
      let one : 1 ≤ weight (worked_at k n ks) = omega arith in
      let r = weighs_one (find_header n ks) (λ s. is_work_of k s.owner) one in
      let o = work_is k (r.0).state.owner r.2 in
      let z : times n notes ≡ 0 = A.noted n ∙ (ap weight (noticed_found k n ks r.0 r.1) ∙ rw o refl) in
      let m = weight_below (worked_at k n ks) in
      (r.0, r.1, o, z, omega arith)

  to_port : (ks : List HeaderRecord) (notes work : List ℕ) (x : CarriedHeader) (spot : Spot) (load : Load) → Shifted ports (number_of c) hs notes (x.header.number ∷ work) ks
      → made_at (record { component = number_of c; port = x.port }) x.header.number hs ≡ true → Shifted ports (number_of c) hs notes work (put (key_at c x) spot x.header.number (loaded load) ks)
  to_port ks notes work x spot load A m =
      let k : ℕ = number_of c in
      let n : ℕ = x.header.number in
      let key : PortKey = key_at c x in
      let F = front_is ks notes work n A in
      let r : HeaderRecord = F.0 in
      let R = replaced_put key spot (loaded load) (λ y. refl) n ks r A.once F.1 in
      let f : is_for key r.state ≡ true = rw F.1 at (A.made n key ∙ m) in
      shifted_one ports k n hs ks (put key spot n (loaded load) ks) r (put_at key spot (loaded load r)) notes (n ∷ work) notes work A R (record { port = refl; peer = refl; home = refl }) (f, not_out spot)
      (rw F.2 (shift_in k n key notes work F.3 F.4))

  to_note : (ks : List HeaderRecord) (notes work : List ℕ) (x : CarriedHeader) (load : Load) → Shifted ports (number_of c) hs notes (x.header.number ∷ work) ks
      → made_at (record { component = number_of c; port = x.port }) x.header.number hs ≡ true → is_tunnelled c x ≡ false
      → Shifted ports (number_of c) hs (notes ++ x.header.number ∷ []) work (changed x.header.number (λ r. given_to (owners.Notice (number_of c)) (loaded load r)) ks)
  to_note ks notes work x load A m u =
      let k : ℕ = number_of c in
      let n : ℕ = x.header.number in
      let key : PortKey = key_at c x in
      let change : HeaderRecord → HeaderRecord = λ r. given_to (owners.Notice k) (loaded load r) in
      let F = front_is ks notes work n A in
      let r : HeaderRecord = F.0 in
      let R = replaced_changed change (λ y. refl) n ks r A.once F.1 in
      let f : is_for key r.state ≡ true = rw F.1 at (A.made n key ∙ m) in
      let S = A.tied.placed n r F.1 in
      let p = port_for ports ks key r.state A.tied S f in
      let j = holds_there (port_of c x.port) is_joined p.0 false (there x.port p.0 p.1) u in
      let C = for_client ports ks key p.0 r.state A.tied p.1 (unlinked p.0 j) S f in
      shifted_one ports k n hs ks (changed n change ks) r (change r) notes (n ∷ work) (notes ++ n ∷ []) work A R (record { port = refl; peer = refl; home = refl }) (refl, C.1, ap (λ (y : PortKey). y.component) C.0)
      (rw F.2 (shift_noted k n notes work F.3 F.4))

  pub one_landed : (ks : List HeaderRecord) (notes work : List ℕ) (s : Stream) (done : WorkDone) (x : CarriedHeader) (load : Load) (l : Landing) → landing c s done x ≡ l → Shifted ports (number_of c) hs notes (x.header.number ∷ work) ks
      → made_at (record { component = number_of c; port = x.port }) x.header.number hs ≡ true → Shifted ports (number_of c) hs (notes ++ landed_number l x.header.number) work (landed_at l c x load ks)
  one_landed ks notes work s done x load Again e A m = rw (append-nil notes) (to_port ks notes work x TodoFront load A m)
  one_landed ks notes work s done x load Onward e A m = rw (append-nil notes) (to_port ks notes work x DoneBack load A m)
  one_landed ks notes work s done x load Noted e A m = to_note ks notes work x load A m (noted_client c s done x e)

  -- all of them
  pub shifted_in : (ks : List HeaderRecord) (notes : List ℕ) (s : Stream) (done : WorkDone) (xs : List CarriedHeader) → Shifted ports (number_of c) hs notes (map (λ x. x.header.number) xs) ks → AreMade (number_of c) hs xs
      → Shifted ports (number_of c) hs (notes ++ note_numbers (notes_of_headers c s done xs)) [] (all_landed c s done xs ks)
  shifted_in ks notes s done [] A M = rw (append-nil notes) A
  shifted_in ks notes s done (x ∷ xs) A M =
      let l = landing c s done x in
      let n : ℕ = x.header.number in
      let more : List ℕ = landed_number l n in
      let rest : List ℕ = note_numbers (notes_of_headers c s done xs) in
      let ls : List HeaderRecord = landed_at l c x (load_after c s done x) ks in
      let B = one_landed ks notes (map (λ y. y.header.number) xs) s done x (load_after c s done x) l refl A M.0 in
      let D = shifted_in ls (notes ++ more) s done xs B M.1 in
      let e : note_numbers (notes_of_header c s done x ++ notes_of_headers c s done xs) ≡ more ++ rest = numbers_append (notes_of_header c s done x) (notes_of_headers c s done xs) ∙ rw (header_numbers c s done x) refl in
      let f : notes ++ more ++ rest ≡ notes ++ (more ++ rest) = append_assoc notes more rest in
      let g : notes ++ (more ++ rest) ≡ notes ++ note_numbers (notes_of_header c s done x ++ notes_of_headers c s done xs) = ap (λ (z : List ℕ). notes ++ z) (sym e) in
      subst (λ (z : List ℕ). Shifted ports (number_of c) hs z [] (all_landed c s done xs ls)) (f ∙ g) D
