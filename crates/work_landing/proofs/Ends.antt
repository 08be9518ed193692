-- What ends with a step, by the ports' ways, is what ends in the machine.
use Rattle.std.proofs.Common.{◌≡◌, ℕ, zero, suc, ◌+◌, ◌-◌, ◌<◌, ◌≤◌, Bool, true, false, ◌&&◌, ◌||◌, nat_eq, nat_lt, if◌then◌else◌, List, [], ◌∷◌, ◌++◌, length, set, take, refl, ap, sym, ◌∙◌, append_assoc, append-nil, arith}
use Rattle.std.specs.Prelude.{Option, Some, None, is_none, is_some}
use Rattle.std.specs.List.{list_all, list_any}
use Rattle.std.proofs.lemmas.Bool.Decides.{nat_tests}
use Rattle.std.proofs.lemmas.List.{take_all, take_more_set}
use Rattle.omx_types.specs.declared.fault.PartFault.{PartFault}
use Rattle.part_api.specs.Terms.{Terms}
use Rattle.il_machine.specs.Kinds.{is_sink, is_source}
use Rattle.il_machine.specs.Parts.{frames_of, terms_of}
use Rattle.il_machine.specs.World.{Component, Stream}
use Rattle.il_machine.specs.Due.{with_part}
use Rattle.il_machine.specs.Finishing.{ends_by as machine_ends, part_after, part_by as machine_part, tells_end}
use Rattle.il_machine.specs.Stepping.{WorkDone, ended_from, has_ended_by, inputs_ended, is_last, is_over}
use Rattle.header_core.specs.BufferHeader.{BufferHeader}
use Rattle.work_landing.specs.declared.back.Way.{Way}
use Rattle.work_landing.specs.declared.step.Step.{Step}
use Rattle.work_landing.specs.Landed.{AreWays, IsLeft, IsWay, done_by}
use Rattle.work_landing.specs.Places.{carried, carried_from}
use Rattle.work_landing.specs.Returning.{ended_by, ends_by, has_last, known_by, last_at, last_by, over_by, part_by}
use Rattle.work_landing.proofs.Backs.{Covers, known_in, mark_is, none_carried}

-- ---- the last header of an input

last_in : (c : Component) (port : ℕ) (way : Way) (h : BufferHeader) (inside : Bool) → IsWay c port way → nat_lt port (length (terms_of c).inputs) ≡ inside
    → last_by way h ≡ is_last (terms_of c) 0 (carried port h)
last_in c port way h true w e = rw (← w.input, ← w.frame, e) refl
last_in c port way h false w e = rw (← w.input, e) refl

last_is : (c : Component) (port : ℕ) (way : Way) (h : BufferHeader) → IsWay c port way → last_by way h ≡ is_last (terms_of c) 0 (carried port h)
last_is c port way h w = last_in c port way h (nat_lt port (length (terms_of c).inputs)) w refl

-- ---- which inputs have ended

other_port : (a b : ℕ) → a < b → nat_eq b a ≡ false
other_port a b l = grind (arith, nat_tests)

other_after : (a b : ℕ) → a < b → nat_eq a b ≡ false
other_after a b l = grind (arith, nat_tests)

same_port : (a : ℕ) → nat_eq a a ≡ true
same_port a = grind (arith, nat_tests)

none_for : (t : Terms) (port q : ℕ) (places : List (Option BufferHeader)) → q < port → has_ended_by t 0 (carried_from port places) q ≡ true
none_for t port q [] l = refl
none_for t port q (None ∷ places) l = none_for t (port + 1) q places (omega (arith, l))
none_for t port q (Some h ∷ places) l = rw (other_port q port l) (none_for t (port + 1) q places (omega (arith, l)))

and_true : (b c : Bool) → c ≡ true → b ≡ (b && c)
and_true true c e = sym e
and_true false c e = refl

first_ends : (c : Component) (port : ℕ) (way : Way) (place : Option BufferHeader) (places : List (Option BufferHeader)) → IsWay c port way
    → last_at way place ≡ has_ended_by (terms_of c) 0 (carried_from port (place ∷ places)) port
first_ends c port way None places w = sym (none_for (terms_of c) (port + 1) port places (omega arith))
first_ends c port way (Some h) places w =
    rw (same_port port) (last_is c port way h w ∙ and_true _ _ (none_for (terms_of c) (port + 1) port places (omega arith)))

rest_ends : (t : Terms) (port q : ℕ) (place : Option BufferHeader) (places : List (Option BufferHeader)) → port < q
    → has_ended_by t 0 (carried_from port (place ∷ places)) q ≡ has_ended_by t 0 (carried_from (port + 1) places) q
rest_ends t port q None places l = refl
rest_ends t port q (Some h) places l = rw (other_after port q l) refl

inside_way : (c : Component) (port count : ℕ) (way : Way) → IsWay c port way → port + suc count ≡ length (terms_of c).inputs → way.input ≡ true
inside_way c port count way w e = sym w.input ∙ grind (arith, nat_tests, e)

outside_way : (c : Component) (port : ℕ) (way : Way) → IsWay c port way → port + 0 ≡ length (terms_of c).inputs → way.input ≡ false
outside_way c port way w e = sym w.input ∙ grind (arith, nat_tests, e)

ended_none : (c : Component) (port : ℕ) (ways : List Way) (places : List (Option BufferHeader)) → AreWays c port ways → port + 0 ≡ length (terms_of c).inputs → ended_by ways places ≡ []
ended_none c port [] places ws e = refl
ended_none c port (way ∷ ways) [] ws e = refl
ended_none c port (way ∷ ways) (place ∷ places) ws e = rw (outside_way c port way ws.0 e) refl

where_true : (b : Bool) (xs : List Bool) → b ≡ true → (if b then xs else []) ≡ xs
where_true true xs e = refl
where_true false xs e = absurd cc

cons_same : (a b : Bool) (xs ys : List Bool) → a ≡ b → xs ≡ ys → a ∷ xs ≡ b ∷ ys
cons_same a b xs ys e f = cc

abbrev Agree : Terms → ℕ → List (Option BufferHeader) → List (Option BufferHeader) → Type 0
Agree t port places all = (q : ℕ) → port ≤ q → has_ended_by t 0 (carried_from 0 all) q ≡ has_ended_by t 0 (carried_from port places) q

ended_rest : (c : Component) (port count : ℕ) (ways : List Way) (places all : List (Option BufferHeader)) → AreWays c port ways → port + count ≡ length (terms_of c).inputs → count ≤ length ways → count ≤ length places
    → Agree (terms_of c) port places all → ended_by ways places ≡ ended_from (terms_of c) 0 (carried_from 0 all) port count
ended_rest c port zero ways places all ws e l m A = ended_none c port ways places ws e
ended_rest c port (suc count) [] places all ws e l m A = absurd (omega arith)
ended_rest c port (suc count) (way ∷ ways) [] all ws e l m A = absurd (omega arith)
ended_rest c port (suc count) (way ∷ ways) (place ∷ places) all ws e l m A =
    where_true way.input (last_at way place ∷ ended_by ways places) (inside_way c port count way ws.0 e)
    ∙ (cons_same _ _ _ _ (first_ends c port way place places ws.0 ∙ sym (A port (omega arith)))
    (ended_rest c (port + 1) count ways places all ws.1 (omega (arith, e)) (omega (arith, l)) (omega (arith, m))
    (λ q b. A q (omega (arith, b)) ∙ rest_ends (terms_of c) port q place places (omega (arith, b)))))

-- of each input whether it has ended
pub ended_is : (c : Component) (ways : List Way) (places : List (Option BufferHeader)) → AreWays c 0 ways → length (terms_of c).inputs ≤ length ways → length (terms_of c).inputs ≤ length places
    → ended_by ways places ≡ inputs_ended (terms_of c) 0 (carried_from 0 places)
ended_is c ways places ws l m = ended_rest c 0 (length (terms_of c).inputs) ways places places ws (omega arith) l m (λ q b. refl)

-- ---- they are kept one after another

ends_more : (es : List Bool) (i : ℕ) (b : Bool) (rest : List Bool) → i < length es → take (i + 1) (set es i b) ++ rest ≡ take i es ++ b ∷ rest
ends_more es i b rest l = ap (λ (xs : List Bool). xs ++ rest) (take_more_set es i b l) ∙ append_assoc (take i es) (b ∷ []) rest

pub ends_none : (c : Component) (i : ℕ) → length c.part.ended_inputs ≡ i + 0 → c ≡ with_part (record c.part { ended_inputs = take i c.part.ended_inputs ++ [] }) c
ends_none c i e = ap (λ (es : List Bool). with_part (record c.part { ended_inputs = es }) c)
    (sym (append-nil (take i c.part.ended_inputs) ∙ take_all i c.part.ended_inputs (omega (arith, e))))

-- ---- whether the part has ended, and its sink's stream

no_more : (all before frames : ℕ) → all - (before + frames) ≡ all - before - frames
no_more all before frames = omega arith

by_source : (c : Component) (s : Stream) (done : WorkDone) (step : Step) (ended : List Bool) (source : Bool) → is_source c.settings.kind ≡ source → IsLeft c s done step
    → (if is_source c.settings.kind then nat_eq step.left 0 else list_all (λ input. input) ended) ≡ is_over (terms_of c) s done.frames ended
by_source c s done step ended true e left = rw e (ap (λ n. nat_eq n 0) (left e ∙ no_more (frames_of c.file) s.frames done.frames))
by_source c s done step ended false e left = rw e refl

parts_same : (c : Component) (s : Stream) (done : WorkDone) (fault : Option PartFault) → part_by fault (inputs_ended (terms_of c) 0 done.headers) (machine_ends c s done) c.part ≡ machine_part c s done fault
parts_same c s done None = refl
parts_same c s done (Some fault) = refl

has_last_is : (c : Component) (port : ℕ) (ways : List Way) (places : List (Option BufferHeader)) → AreWays c port ways → Covers ways places
    → has_last ways places ≡ list_any (is_last (terms_of c) 0) (carried_from port places)
has_last_is c port [] places ws free = ap (list_any (is_last (terms_of c) 0)) (sym (none_carried port places free))
has_last_is c port (way ∷ ways) [] ws covers = refl
has_last_is c port (way ∷ ways) (None ∷ places) ws covers = has_last_is c (port + 1) ways places ws.1 covers
has_last_is c port (way ∷ ways) (Some h ∷ places) ws covers =
    ap (λ b. b || has_last ways places) (last_is c port way h ws.0) ∙ ap (λ b. is_last (terms_of c) 0 (carried port h) || b) (has_last_is c (port + 1) ways places ws.1 covers)

module _ (c : Component) (ways : List Way) (places : List (Option BufferHeader)) (step : Step) (s : Stream) (took : List ℕ) (ws : AreWays c 0 ways) (l : length (terms_of c).inputs ≤ length ways) (m : length (terms_of c).inputs ≤ length places)
    (covers : Covers ways places) (left : IsLeft c s (done_by c.handle.generation places step took) step) where
  abbrev done : WorkDone
  done = done_by c.handle.generation places step took

  pub over_is : over_by c.settings.kind ways places step ≡ machine_ends c s done
  over_is = ap (λ b. is_none step.fault && b)
      (ap (λ xs. if is_source c.settings.kind then nat_eq step.left 0 else list_all (λ input. input) xs) (ended_is c ways places ws l m)
      ∙ by_source c s done step (inputs_ended (terms_of c) 0 (carried_from 0 places)) (is_source c.settings.kind) refl left)

  pub known_is : known_by c.handle (over_by c.settings.kind ways places step) ways places step ≡ known_in c s done
  known_is = λ i. record {
    component = c.handle;
    failed = is_some step.fault;
    filled = nat_lt 0 step.frames || over_is i;
    mark = mark_is c s done 0 ways places ws covers i;
  }

  pub part_is : part_by step.fault (ended_by ways places) (over_by c.settings.kind ways places step) c.part ≡ part_after c s done
  part_is = ap (λ xs. part_by step.fault xs (over_by c.settings.kind ways places step) c.part) (ended_is c ways places ws l m)
      ∙ (ap (λ b. part_by step.fault (inputs_ended (terms_of c) 0 (carried_from 0 places)) b c.part) over_is
      ∙ parts_same c s done step.fault)

  pub ends_is : ends_by c.settings.kind ways places step ≡ tells_end c done
  ends_is = ap (λ b. is_sink c.settings.kind && is_none step.fault && b) (has_last_is c 0 ways places ws covers)
