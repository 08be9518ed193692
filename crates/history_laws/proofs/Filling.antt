-- What a work that comes back puts into the memories of its headers; no other act moves a header from a work.
use Rattle.std.proofs.Common.{◌≡◌, ◌≢◌, inl, inr, ℕ, suc, Bool, true, false, not, List, [], ◌∷◌, map, slice_get, if◌then◌else◌, Option, Some, None, is_some, option_map, Ok, refl, sym, ◌∙◌, ap, subst, eq-eqb, ne_eqb, arith}
use Rattle.std.proofs.lemmas.Bool.{cases_eq}
use Rattle.omx_types.specs.declared.fault.PartFault.{PartFault}
use Rattle.part_api.specs.Streams.{Incoming}
use Rattle.il_machine.specs.declared.answer.Acted.TheVariants.{Did}
use Rattle.il_machine.specs.declared.header.Owner.TheVariants as owners
use Rattle.il_machine.specs.declared.port.Link.{Link}
use Rattle.il_machine.specs.declared.port.PortKey.{PortKey}
use Rattle.il_machine.specs.declared.port.Port.{Port}
use Rattle.il_machine.specs.World.{Component, HeaderRecord, Load, Picked, Stream, Work, World, number_of, port_of, stream_of, with_component}
use Rattle.il_machine.specs.Headers.{seen, find_header, is_for, Once}
use Rattle.il_machine.specs.Buffers.{held}
use Rattle.il_machine.specs.Notes.{TakenEmpty, TakenFilled, TookNote}
use Rattle.il_machine.specs.Due.{ClosesTo}
use Rattle.il_machine.specs.Census.{note_numbers, times}
use Rattle.il_machine.specs.Claims.{CarriedHeader, ClaimedWork, carried, terms_in}
use Rattle.il_machine.specs.Stepping.{WorkDone, is_in, stepped, IsStepBy, IsAnnounced}
use Rattle.il_machine.specs.Finishing.{Landing, landing, is_an_input, is_cleared, is_finished, load_after, landed_at, all_landed, announced, with_landed, finished_by, finished}
use Rattle.il_machine.specs.Acts.{Act, Reply}
use Rattle.il_machine.specs.Acts as acts
use Rattle.il_machine.specs.Run.{Step, Meets}
use Rattle.il_machine.specs.Trails.{Stop, Unmade, With, Move, moves, moved, front_move, client_stop, is_of, trail, release_moves, over, over_moves, back, back_moves, port_named, claimed_move}
use Rattle.il_machine.specs.Sound.{Sound, IsPickedFor}
use Rattle.machine_laws.proofs.Every.{at_place}
use Rattle.machine_laws.proofs.Finding.{either, found_number}
use Rattle.machine_laws.proofs.Lookups.{port_at_is}
use Rattle.machine_laws.proofs.Listed.{header_there, times_self, times_else}
use Rattle.machine_laws.proofs.Parts.{parts_of, ports_in_list}
use Rattle.machine_laws.proofs.Shifting.{Shifted}
use Rattle.machine_laws.proofs.Landing.{AreMade, stepped_number, front_is, one_landed}
use Rattle.history_laws.specs.Memory.{memory_of, memory_at, HasMemory, content_of, filled_by, filled_in, with_front}
use Rattle.history_laws.proofs.GivenHeaders.{closed_memory}
use Rattle.history_laws.proofs.Shifts.{landed_one, finish_passed_on}
use Rattle.history_laws.proofs.WorkSteps.{IsBackOf, back_of, landing_of, announces_is, stepped_is, numbered_there}

-- ---- moves from a work

pub single : (m n : Move) (ms : List Move) → (m ∷ ms) ≡ (n ∷ []) → m ≡ n
single m n ms e = cc

pub none_moved : (n : Move) → [] ≡ (n ∷ []) → ⊥
none_moved n e = cc

not_this : (number : ℕ) (m : Move) (k : ℕ) (to : Stop) → m.from ≢ With (owners.Work k) → trail number (m ∷ []) ≡ moved number (With (owners.Work k)) to → ⊥
not_this number m k to a e =
    let x : Move = record { header = number; from = With (owners.Work k); to = to } in
    either (is_of number m)
    (λ t. let f : (m ∷ []) ≡ (x ∷ []) = rw t at e in a (ap (λ (y : Move). y.from) (single m x [] f)))
    (λ g. let f : [] ≡ (x ∷ []) = rw g at e in none_moved x f)

not_front : (number : ℕ) (from to : Stop) (ns : List ℕ) (k : ℕ) (end : Stop) → from ≢ With (owners.Work k) → trail number (front_move from to ns) ≡ moved number (With (owners.Work k)) end → ⊥
not_front number from to [] k end a e = none_moved (record { header = number; from = With (owners.Work k); to = end }) e
not_front number from to (n ∷ ns) k end a e = not_this number (record { header = n; from = from; to = to }) k end a e

not_released : (w : World) (o : Option Port) (number k : ℕ) (end : Stop) → trail number (release_moves w o) ≡ moved number (With (owners.Work k)) end → ⊥
not_released w None number k end e = none_moved (record { header = number; from = With (owners.Work k); to = end }) e
not_released w (Some p) number k end e = not_front number _ _ _ k end (λ q. absurd cc) e

not_over : (w : World) (p : Port) (o : Option Link) (number k : ℕ) (end : Stop) → trail number (over w p o) ≡ moved number (With (owners.Work k)) end → ⊥
not_over w p None number k end e = none_moved (record { header = number; from = With (owners.Work k); to = end }) e
not_over w p (Some link) number k end e = not_front number _ _ _ k end (λ q. absurd cc) e

not_handed : (w : World) (o : Option Port) (number k : ℕ) (end : Stop) → trail number (over_moves w o) ≡ moved number (With (owners.Work k)) end → ⊥
not_handed w None number k end e = none_moved (record { header = number; from = With (owners.Work k); to = end }) e
not_handed w (Some p) number k end e = not_over w p p.state.link number k end e

not_back : (w : World) (p : Port) (o : Option Link) (number k : ℕ) (end : Stop) → trail number (back w p o) ≡ moved number (With (owners.Work k)) end → ⊥
not_back w p None number k end e = not_front number _ _ _ k end (λ q. absurd cc) e
not_back w p (Some link) number k end e = not_front number _ _ _ k end (λ q. absurd cc) e

not_handed_back : (w : World) (o : Option Port) (number k : ℕ) (end : Stop) → trail number (back_moves w o) ≡ moved number (With (owners.Work k)) end → ⊥
not_handed_back w None number k end e = none_moved (record { header = number; from = With (owners.Work k); to = end }) e
not_handed_back w (Some p) number k end e = not_back w p p.state.link number k end e

not_claimed : (j : ℕ) (xs : List CarriedHeader) (number k : ℕ) (end : Stop) → trail number (map (claimed_move j) xs) ≡ moved number (With (owners.Work k)) end → ⊥
not_claimed j [] number k end e = none_moved (record { header = number; from = With (owners.Work k); to = end }) e
not_claimed j (x ∷ xs) number k end e =
    let m : Move = claimed_move j x in
    let n : Move = record { header = number; from = With (owners.Work k); to = end } in
    either (is_of number m)
    (λ t.
    let f : (m ∷ trail number (map (claimed_move j) xs)) ≡ (n ∷ []) = rw t at e in
    let g = ap (λ (y : Move). y.from) (single m n (trail number (map (claimed_move j) xs)) f) in
    absurd cc)
    (λ g. not_claimed j xs number k end (rw g at e))

not_one : (number n : ℕ) (from to : Stop) (k : ℕ) (end : Stop) → from ≢ With (owners.Work k) → trail number (moved n from to) ≡ moved number (With (owners.Work k)) end → ⊥
not_one number n from to k end a e = not_this number (record { header = n; from = from; to = to }) k end a e

from_none : (number k : ℕ) (to : Stop) → trail number [] ≡ moved number (With (owners.Work k)) to → ⊥
from_none number k to e = none_moved (record { header = number; from = With (owners.Work k); to = to }) e

-- any answer but that of a work that came back
abbrev pub IsOther : Act → Reply → Type 0
IsOther (acts.Finish done) acts.Finished = ⊥
IsOther a r = Unit {0}

pub from_no_work : (w : World) (a : Act) (r : Reply) (number k : ℕ) (to : Stop) → IsOther a r → trail number (moves w a r) ≡ moved number (With (owners.Work k)) to → ⊥
from_no_work w (acts.AllocateBuffer h port) (acts.Allocated (Ok header)) number k to o e = not_one number header.number Unmade client_stop k to (λ q. absurd cc) e
from_no_work w (acts.UseBuffer h port bytes) (acts.Used (Ok header)) number k to o e = not_one number header.number Unmade client_stop k to (λ q. absurd cc) e
from_no_work w (acts.FreeBuffer h port header) (acts.Freed (Ok memory)) number k to o e = not_one number header client_stop Unmade k to (λ q. absurd cc) e
from_no_work w (acts.EmptyThisBuffer h port header) (acts.Plain (Ok done)) number k to o e = not_one number header.number client_stop _ k to (λ q. absurd cc) e
from_no_work w (acts.FillThisBuffer h port header) (acts.Plain (Ok done)) number k to o e = not_one number header.number client_stop _ k to (λ q. absurd cc) e
from_no_work w (acts.TakeNote h) (acts.Took (Ok (TookNote (TakenEmpty header)))) number k to o e = not_one number header.number _ client_stop k to (λ q. absurd cc) e
from_no_work w (acts.TakeNote h) (acts.Took (Ok (TookNote (TakenFilled header)))) number k to o e = not_one number header.number _ client_stop k to (λ q. absurd cc) e
from_no_work w (acts.Supply h port) (acts.Supplied (Ok Did)) number k to o e = not_one number w.made Unmade _ k to (λ q. absurd cc) e
from_no_work w (acts.Release h port) (acts.Acted (Ok Did)) number k to o e = not_released w (port_named h port w) number k to e
from_no_work w (acts.HandOver h port) (acts.Acted (Ok Did)) number k to o e = not_handed w (port_named h port w) number k to e
from_no_work w (acts.HandBack h port) (acts.Acted (Ok Did)) number k to o e = not_handed_back w (port_named h port w) number k to e
from_no_work w (acts.Claim h) (acts.Claimed (Ok (ClaimedWork work))) number k to o e = not_claimed work.component work.headers number k to e
from_no_work w (acts.Finish done) acts.Finished number k to o e = absurd o
from_no_work w _ _ number k to o e = from_none number k to e

pub is_unfilled : (w : World) (a : Act) (r : Reply) (v : World) (number : ℕ) (before after : Option (List ℕ)) → IsOther a r → Step w a r v → after ≡ before → after ≡ with_front (filled_in w a number) before
is_unfilled w (acts.Finish done) acts.Finished v number before after o h e = absurd o
is_unfilled w (acts.Finish done) _ v number before after o h e = absurd h
is_unfilled w _ _ v number before after o h e = e

-- ---- what the headers of a work come back with

abbrev own_content : Component → CarriedHeader → Option (List ℕ)
own_content c x = if not (is_an_input c x) then Some x.header.content else None

abbrev fills : Bool → Component → List CarriedHeader → ℕ → Option (List ℕ)
fills failed c xs n = if failed then None else content_of c xs n

-- each has the memory that the world's header has, with what the step made at its front
abbrev AreFilled : Component → Bool → List HeaderRecord → List CarriedHeader → Type 0
AreFilled c failed ks [] = Unit {0}
AreFilled c failed ks (x ∷ xs) =
    ((m : Option (List ℕ)) × (memory_at x.header.number ks ≡ Some m) × (x.header.memory ≡ with_front (if failed then None else own_content c x) m)) × AreFilled c failed ks xs

content_absent : (c : Component) (n : ℕ) (xs : List CarriedHeader) → times n (map (λ x. x.header.number) xs) ≡ 0 → content_of c xs n ≡ None
content_absent c n [] e = refl
content_absent c n (x ∷ xs) e = elim (cases_eq x.header.number n) [
  | inl is ↦
      let a : times n (n ∷ map (λ y. y.header.number) xs) ≡ 0 = subst (λ (k : ℕ). times n (k ∷ map (λ y. y.header.number) xs) ≡ 0) is e in
      let b = times_self n (map (λ y. y.header.number) xs) in
      absurd (omega arith)
  | inr d ↦ let b = times_else n x.header.number (map (λ y. y.header.number) xs) d in rw (ne_eqb x.header.number n d) (content_absent c n xs (sym b ∙ e))
]

fills_absent : (failed : Bool) (c : Component) (n : ℕ) (xs : List CarriedHeader) → times n (map (λ x. x.header.number) xs) ≡ 0 → fills failed c xs n ≡ None
fills_absent true c n xs e = refl
fills_absent false c n xs e = content_absent c n xs e

fills_own : (failed : Bool) (c : Component) (x : CarriedHeader) (xs : List CarriedHeader) → content_of c xs x.header.number ≡ None → fills failed c (x ∷ xs) x.header.number ≡ (if failed then None else own_content c x)
fills_own true c x xs e = refl
fills_own false c x xs e = rw (eq-eqb x.header.number x.header.number refl) (either (is_an_input c x) (λ t. rw t e) (λ f. rw f refl))

fills_else : (failed : Bool) (c : Component) (n : ℕ) (x : CarriedHeader) (xs : List CarriedHeader) → x.header.number ≢ n → fills failed c (x ∷ xs) n ≡ fills failed c xs n
fills_else true c n x xs d = refl
fills_else false c n x xs d = rw (ne_eqb x.header.number n d) refl

memory_of_load : (c : Component) (s : Stream) (done : WorkDone) (x : CarriedHeader) → (load_after c s done x).memory ≡ x.header.memory
memory_of_load c s done x = either (is_cleared c s done x) (λ t. rw t refl) (λ f. rw f (either (is_finished c s done x) (λ t. rw t refl) (λ g. rw g refl)))

filled_kept : (c : Component) (failed : Bool) (n : ℕ) (ks ls : List HeaderRecord) (xs : List CarriedHeader) → times n (map (λ x. x.header.number) xs) ≡ 0 → ((m : ℕ) → m ≢ n → find_header m ls ≡ find_header m ks)
    → AreFilled c failed ks xs → AreFilled c failed ls xs
filled_kept c failed n ks ls [] e others A = tt
filled_kept c failed n ks ls (x ∷ xs) e others A = elim (cases_eq x.header.number n) [
  | inl is ↦
      let a : times n (n ∷ map (λ y. y.header.number) xs) ≡ 0 = subst (λ (k : ℕ). times n (k ∷ map (λ y. y.header.number) xs) ≡ 0) is e in
      let b = times_self n (map (λ y. y.header.number) xs) in
      absurd (omega arith)
  | inr d ↦
      let b = times_else n x.header.number (map (λ y. y.header.number) xs) d in
      (((A.0).0, ap (option_map memory_of) (others x.header.number d) ∙ (A.0).1, (A.0).2), filled_kept c failed n ks ls xs (sym b ∙ e) others A.1)
]

one_memory : (o : Option (Option (List ℕ))) (a b : Option (List ℕ)) → o ≡ Some a → o ≡ Some b → a ≡ b
one_memory o a b e f = let s : Some a ≡ Some b = sym e ∙ f in cc

module _ (ports : PortKey → Option Port) (c : Component) (there : (port : ℕ) (p : Port) → ports (record { component = number_of c; port = port }) ≡ Some p → port_of c port ≡ Some p) (hs : List HeaderRecord) (failed : Bool) where
  landed_memory : (ks : List HeaderRecord) (notes : List ℕ) (s : Stream) (done : WorkDone) (xs : List CarriedHeader) → Shifted ports (number_of c) hs notes (map (λ x. x.header.number) xs) ks → AreMade (number_of c) hs xs
      → AreFilled c failed ks xs → (n : ℕ) (m : Option (List ℕ)) → memory_at n ks ≡ Some m → memory_at n (all_landed c s done xs ks) ≡ Some (with_front (fills failed c xs n) m)
  landed_memory ks notes s done [] A M Q n m e = e ∙ ap (λ (o : Option (List ℕ)). Some (with_front o m)) (sym (fills_absent failed c n [] refl))
  landed_memory ks notes s done (x ∷ xs) A M Q n m e =
      let l : Landing = landing c s done x in
      let k : ℕ = x.header.number in
      let load : Load = load_after c s done x in
      let ls : List HeaderRecord = landed_at l c x load ks in
      let rest : List ℕ = map (λ y. y.header.number) xs in
      let F = front_is ports c there hs ks notes rest k A in
      let z = times_self k rest in
      let none : times k rest ≡ 0 = omega (arith, F.4) in
      let L = landed_one c x l load F.0 ks A.once F.1 in
      let B = one_landed ports c there hs ks notes rest s done x load l refl A M.0 in
      let P = filled_kept c failed k ks ls xs none (L.replaced).others Q.1 in
      elim (cases_eq n k) [
        | inl is ↦
            let same : m ≡ (Q.0).0 = one_memory (memory_at k ks) m (Q.0).0 (subst (λ (j : ℕ). memory_at j ks ≡ Some m) is e) (Q.0).1 in
            let now : memory_at k ls ≡ Some x.header.memory = ap (option_map memory_of) (L.replaced).here ∙ ap (λ (y : Option (List ℕ)). Some y) (ap (λ (y : Load). y.memory) L.load_is ∙ memory_of_load c s done x) in
            let i : memory_at k (all_landed c s done xs ls) ≡ Some (with_front (fills failed c xs k) x.header.memory) = landed_memory ls _ s done xs B M.1 P k x.header.memory now in
            let j : memory_at k (all_landed c s done xs ls) ≡ Some x.header.memory = i ∙ ap (λ (o : Option (List ℕ)). Some (with_front o x.header.memory)) (fills_absent failed c k xs none) in
            let f : fills failed c (x ∷ xs) k ≡ (if failed then None else own_content c x) = fills_own failed c x xs (content_absent c k xs none) in
            let g : x.header.memory ≡ with_front (fills failed c (x ∷ xs) k) m = (Q.0).2 ∙ (λ t. with_front (sym f t) (sym same t)) in
            let goal : memory_at k (all_landed c s done xs ls) ≡ Some (with_front (fills failed c (x ∷ xs) k) m) = j ∙ ap (λ (y : Option (List ℕ)). Some y) g in
            subst (λ (j : ℕ). memory_at j (all_landed c s done xs ls) ≡ Some (with_front (fills failed c (x ∷ xs) j) m)) (sym is) goal
        | inr d ↦
            let was : memory_at n ls ≡ Some m = ap (option_map memory_of) ((L.replaced).others n d) ∙ e in
            landed_memory ls _ s done xs B M.1 P n m was ∙ ap (λ (o : Option (List ℕ)). Some (with_front o m)) (sym (fills_else failed c n x xs (λ q. d (sym q))))
      ]

-- ---- what a step gives

found_memory : (hs : List HeaderRecord) (n : ℕ) (r : HeaderRecord) → find_header n hs ≡ Some r → r.state.number ≡ n → memory_at r.state.number hs ≡ Some (memory_of r)
found_memory hs n r f e = ap (λ (k : ℕ). memory_at k hs) e ∙ ap (option_map memory_of) f

stepped_memory : (c : Component) (work : Work) (frames : ℕ) (came : Incoming) (over : Bool) (x : CarriedHeader) → (stepped (terms_in c work) frames came over x).header.memory ≡ with_front (own_content c (stepped (terms_in c work) frames came over x)) x.header.memory
stepped_memory c work frames came over x = either (is_in (terms_in c work) x) (λ t. rw t refl) (λ f. rw f refl)

whole_filled : (hs : List HeaderRecord) (c : Component) (work : Work) (frames : ℕ) (came : Incoming) (over : Bool) (k : ℕ) (ps : List Picked) → ((j : ℕ) (p : Picked) → slice_get ps j ≡ Some p → IsPickedFor (seen hs) k p)
    → AreFilled c false hs (map (stepped (terms_in c work) frames came over) (carried hs ps))
whole_filled hs c work frames came over k [] h = tt
whole_filled hs c work frames came over k (p ∷ ps) h =
    let r = header_there (find_header p.number hs) (λ s. is_for (record { component = k; port = p.port }) s ≡ true) (h 0 p refl) in
    let x : CarriedHeader = record { port = p.port; header = held r.0 } in
    let y : CarriedHeader = stepped (terms_in c work) frames came over x in
    let n : y.header.number ≡ (r.0).state.number = stepped_number (terms_in c work) frames came over x in
    rw r.1 ((memory_of r.0, ap (λ (j : ℕ). memory_at j hs) n ∙ found_memory hs p.number r.0 r.1 (found_number p.number hs r.0 r.1), stepped_memory c work frames came over x), whole_filled hs c work frames came over k ps (λ j q e. h (suc j) q e))

broken_filled : (hs : List HeaderRecord) (c : Component) (k : ℕ) (ps : List Picked) → ((j : ℕ) (p : Picked) → slice_get ps j ≡ Some p → IsPickedFor (seen hs) k p) → AreFilled c true hs (carried hs ps)
broken_filled hs c k [] h = tt
broken_filled hs c k (p ∷ ps) h =
    let r = header_there (find_header p.number hs) (λ s. is_for (record { component = k; port = p.port }) s ≡ true) (h 0 p refl) in
    rw r.1 ((memory_of r.0, found_memory hs p.number r.0 r.1 (found_number p.number hs r.0 r.1), refl), broken_filled hs c k ps (λ j q e. h (suc j) q e))

step_filled : (o : Option PartFault) (hs : List HeaderRecord) (c : Component) (work : Work) (s : Stream) (done : WorkDone) (k : ℕ) → IsStepBy o (terms_in c work) s (carried hs work.headers) done
    → ((j : ℕ) (p : Picked) → slice_get work.headers j ≡ Some p → IsPickedFor (seen hs) k p) → AreFilled c (is_some o) hs done.headers
step_filled None hs c work s done k h picked = let e = h.3 in rw e (whole_filled hs c work _ _ _ k work.headers picked)
step_filled (Some fault) hs c work s done k h picked = let e = h.2 in rw e (broken_filled hs c k work.headers picked)

-- ---- a work that comes back

filled_is : (w : World) (done : WorkDone) (i : ℕ) (c : Component) (work : Work) (number : ℕ) → IsBackOf w done i c work → filled_in w (acts.Finish done) number ≡ fills (is_some done.fault) c done.headers number
filled_is w done i c work number B = ap (λ (o : Option Component). filled_by o done number) (numbered_there w done i c work B)

closed_as : (m v : World) (number : ℕ) (memory after : Option (List ℕ)) → Once m.headers → ClosesTo m v → HasMemory m number memory → HasMemory v number after → after ≡ memory
closed_as m v number memory after o C H K = one_memory (memory_at number v.headers) after memory K (closed_memory m v number memory o C H)

announced_memory : (w : World) (done : WorkDone) (v : World) (i : ℕ) (c : Component) (work : Work) (number : ℕ) (before after : Option (List ℕ)) → Sound w → IsBackOf w done i c work → work.announces ≡ true → ClosesTo (finished i c done w) v
    → HasMemory w number before → HasMemory v number after → after ≡ with_front (filled_in w (acts.Finish done) number) before
announced_memory w done v i c work number before after S B a C H K =
    let D : IsAnnounced done = rw a at B.meets in
    let mid = with_component i (announced c) w in
    let e : finished i c done w ≡ mid = ap (λ (o : Option Work). finished_by i c done o w) B.out ∙ announces_is w done i c work a in
    let none : fills (is_some done.fault) c done.headers number ≡ None = ap (λ (xs : List CarriedHeader). fills (is_some done.fault) c xs number) D.2 ∙ fills_absent (is_some done.fault) c number [] refl in
    closed_as mid v number before after S.once (subst (λ (x : World). ClosesTo x v) e C) H K ∙ ap (λ (o : Option (List ℕ)). with_front o before) (sym (filled_is w done i c work number B ∙ none))

lands_memory : (w : World) (done : WorkDone) (v : World) (i : ℕ) (c : Component) (work : Work) (number : ℕ) (before after : Option (List ℕ)) → Sound w → IsBackOf w done i c work → work.announces ≡ false → ClosesTo (finished i c done w) v
    → HasMemory w number before → HasMemory v number after → after ≡ with_front (filled_in w (acts.Finish done) number) before
lands_memory w done v i c work number before after S B n C H K =
    let P = parts_of w S in
    let L = landing_of w done i c work S B n in
    let s : Stream = L.stream in
    let mid = with_landed i c done s w in
    let f : stream_of (number_of c) w ≡ Some s = ap (λ (k : ℕ). stream_of k w) B.number ∙ L.found in
    let e : finished i c done w ≡ mid = ap (λ (o : Option Work). finished_by i c done o w) B.out ∙ stepped_is w done i c work s n f in
    let there : (port : ℕ) (p : Port) → ports_in_list w.components (record { component = number_of c; port = port }) ≡ Some p → port_of c port ≡ Some p =
    λ port p g. sym (port_at_is w.numbered i (record { component = number_of c; port = port }) w.components c P.rising B.there refl) ∙ g in
    let picked : (j : ℕ) (p : Picked) → slice_get work.headers j ≡ Some p → IsPickedFor (seen w.headers) (number_of c) p =
    λ j p g. at_place (IsPickedFor (seen w.headers) (number_of c)) work.headers j p ((P.works).made i c work B.there B.out) g in
    let A = finish_passed_on (ports_in_list w.components) c there w.headers w.headers (note_numbers c.notes) s done done.headers L.shifted L.made in
    let Q = step_filled done.fault w.headers c work s done (number_of c) L.step picked in
    let m = landed_memory (ports_in_list w.components) c there w.headers (is_some done.fault) w.headers (note_numbers c.notes) s done done.headers L.shifted L.made Q number before H in
    closed_as mid v number (with_front (fills (is_some done.fault) c done.headers number) before) after A.once (subst (λ (x : World). ClosesTo x v) e C) m K
    ∙ ap (λ (o : Option (List ℕ)). with_front o before) (sym (filled_is w done i c work number B))

pub finished_memory : (w : World) (done : WorkDone) (v : World) (number : ℕ) (before after : Option (List ℕ)) → Sound w → Meets w (acts.Finish done) → Step w (acts.Finish done) acts.Finished v → HasMemory w number before → HasMemory v number after
    → after ≡ with_front (filled_in w (acts.Finish done) number) before
finished_memory w done v number before after S M h H K =
    let x = back_of w done v M h in
    either (x.2).announces
    (λ a. announced_memory w done v x.0 x.1 x.2 number before after S x.3 a x.4 H K)
    (λ n. lands_memory w done v x.0 x.1 x.2 number before after S x.3 n x.4 H K)
