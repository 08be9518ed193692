-- What comes into a part in a step.
use Rattle.std.proofs.Common.{◌≡◌, ℕ, ◌+◌, ◌*◌, ◌<◌, ◌≤◌, Bool, true, false, not, ◌&&◌, nat_eq, nat_lt, if◌then◌else◌, List, [], ◌∷◌, length, replicate, take, refl, ap, sym, subst, ◌∙◌, arith}
use Rattle.std.specs.Prelude.{Option, Some, None}
use Rattle.std.specs.List.{find}
use Rattle.std.proofs.lemmas.Bool.Decides.{nat_tests}
use Rattle.omx_types.specs.Formats.{frame_bytes_of}
use Rattle.part_api.specs.Streams.{Incoming, Shape, silence, sizes_of}
use Rattle.part_api.specs.Terms.{Terms}
use Rattle.il_machine.specs.Claims.{CarriedHeader}
use Rattle.il_machine.specs.Stepping.{bytes_at, format_at, front_of, input_piece, is_for_port, is_in, is_last, zeros_at}
use Rattle.header_core.specs.BufferHeader.{BufferHeader}
use Rattle.il_flow.specs.declared.layout.Layout.{Layout}
use Rattle.il_flow.specs.Layouts.{IsLaidOut}
use Rattle.il_flow.specs.Places.{carried, carried_from}
use Rattle.il_flow.specs.Steps.{came_in, taken_at, taken_by, taken_from}

other_port : (a b : ℕ) → a < b → nat_eq a b ≡ false
other_port a b l = grind (arith, nat_tests)

same_port : (a : ℕ) → nat_eq a a ≡ true
same_port a = grind (arith, nat_tests)

below : (a b : ℕ) → a < b → nat_lt a b ≡ true
below a b l = grind (arith, nat_tests)

-- ---- a header that was taken changes its own input alone

at_others : (t : Terms) (n port : ℕ) (h : BufferHeader) (incoming : Incoming) (input : ℕ) (gives : Bool) → (is_in t (carried port h) && not (is_last t 0 (carried port h))) ≡ gives
    → nat_eq input port ≡ false → (taken_at t n port h incoming).input input ≡ incoming.input input
at_others t n port h incoming input true e other = rw e (rw other refl)
at_others t n port h incoming input false e other = rw e refl

at_its_own : (t : Terms) (n port : ℕ) (h : BufferHeader) (incoming : Incoming) (last : Bool) → is_last t 0 (carried port h) ≡ last → is_in t (carried port h) ≡ true
    → (taken_at t n port h incoming).input port ≡ (if is_last t 0 (carried port h) then incoming.input port else take (bytes_at t port n) h.held.content)
at_its_own t n port h incoming true e inside = rw (e, inside) refl
at_its_own t n port h incoming false e inside = rw (e, inside) (rw (same_port port) refl)

by_others : (t : Terms) (n port : ℕ) (place : Option BufferHeader) (incoming : Incoming) (input : ℕ) → nat_eq input port ≡ false → (taken_by t n port place incoming).input input ≡ incoming.input input
by_others t n port None incoming input other = refl
by_others t n port (Some h) incoming input other = at_others t n port h incoming input (is_in t (carried port h) && not (is_last t 0 (carried port h))) refl other

-- the inputs before these ports stay
before : (t : Terms) (n port : ℕ) (places : List (Option BufferHeader)) (incoming : Incoming) (input : ℕ) → input < port → (taken_from t n port places incoming).input input ≡ incoming.input input
before t n port [] incoming input l = refl
before t n port (place ∷ places) incoming input l =
    before t n (port + 1) places (taken_by t n port place incoming) input (omega (arith, l)) ∙ by_others t n port place incoming input (other_port input port l)

other_after : (a b : ℕ) → a < b → nat_eq b a ≡ false
other_after a b l = grind (arith, nat_tests)

not_there : (port input : ℕ) (places : List (Option BufferHeader)) → input < port → find (is_for_port input) (carried_from port places) ≡ None
not_there port input [] l = refl
not_there port input (None ∷ places) l = not_there (port + 1) input places (omega (arith, l))
not_there port input (Some h ∷ places) l = rw (other_after input port l) (not_there (port + 1) input places (omega (arith, l)))

-- what an input has by its header, where that has come so far
abbrev pub by_front : Terms → ℕ → List ℕ → ℕ → Option CarriedHeader → List ℕ
by_front t n zeros input None = zeros
by_front t n zeros input (Some x) = if is_last t 0 x then zeros else take (bytes_at t input n) x.header.content

own : (t : Terms) (n port : ℕ) (place : Option BufferHeader) (places : List (Option BufferHeader)) (incoming : Incoming) → port < length t.inputs
    → (taken_by t n port place incoming).input port ≡ by_front t n (incoming.input port) port (find (is_for_port port) (carried_from port (place ∷ places)))
own t n port None places incoming b = ap (by_front t n (incoming.input port) port) (sym (not_there (port + 1) port places (omega arith)))
own t n port (Some h) places incoming b = rw (same_port port) (at_its_own t n port h incoming (is_last t 0 (carried port h)) refl (below port (length t.inputs) b))

passed : (t : Terms) (n port : ℕ) (place : Option BufferHeader) (places : List (Option BufferHeader)) (input : ℕ) → nat_eq port input ≡ false
    → find (is_for_port input) (carried_from (port + 1) places) ≡ find (is_for_port input) (carried_from port (place ∷ places))
passed t n port None places input other = refl
passed t n port (Some h) places input other = rw other refl

equal_ports : (a b : ℕ) → nat_eq a b ≡ true → a ≡ b
equal_ports a b e = grind (arith, nat_tests)

after : (a b : ℕ) → nat_eq a b ≡ false → a ≤ b → a + 1 ≤ b
after a b e l = grind (arith, nat_tests)

at_first : (t : Terms) (n port : ℕ) (place : Option BufferHeader) (places : List (Option BufferHeader)) (incoming : Incoming) (input : ℕ) (same : Bool) → nat_eq port input ≡ same
    → port ≤ input → input < length t.inputs
    → (port + 1 ≤ input → (taken_from t n (port + 1) places (taken_by t n port place incoming)).input input
    ≡ by_front t n ((taken_by t n port place incoming).input input) input (find (is_for_port input) (carried_from (port + 1) places)))
    → (taken_from t n port (place ∷ places) incoming).input input ≡ by_front t n (incoming.input input) input (find (is_for_port input) (carried_from port (place ∷ places)))
at_first t n port place places incoming input true e l b rest =
    let here : port < length t.inputs = omega (arith, l, b) in
    subst (λ i. (taken_from t n port (place ∷ places) incoming).input i ≡ by_front t n (incoming.input i) i (find (is_for_port i) (carried_from port (place ∷ places)))) (equal_ports port input e)
    (before t n (port + 1) places (taken_by t n port place incoming) port (omega arith) ∙ own t n port place places incoming here)
at_first t n port place places incoming input false e l b rest =
    let further : port < input = let k = after port input e l in omega (arith, k) in
    rest (after port input e l)
    ∙ ap (λ zeros. by_front t n zeros input (find (is_for_port input) (carried_from (port + 1) places))) (by_others t n port place incoming input (other_after port input further))
    ∙ ap (by_front t n (incoming.input input) input) (passed t n port place places input e)

at_input : (t : Terms) (n port : ℕ) (places : List (Option BufferHeader)) (incoming : Incoming) (input : ℕ) → port ≤ input → input < length t.inputs
    → (taken_from t n port places incoming).input input ≡ by_front t n (incoming.input input) input (find (is_for_port input) (carried_from port places))
at_input t n port [] incoming input l b = refl
at_input t n port (place ∷ places) incoming input l b =
    at_first t n port place places incoming input (nat_eq port input) refl l b (λ further. at_input t n (port + 1) places (taken_by t n port place incoming) input further b)

by_zeros : (t : Terms) (n input : ℕ) (o : Option CarriedHeader) → by_front t n (zeros_at t input n) input o ≡ front_of t input n o
by_zeros t n input None = refl
by_zeros t n input (Some x) = refl

-- each input has the next frames of its header, zeros where it has none
pub came : (t : Terms) (s : Shape) (l : Layout) (n : ℕ) (places : List (Option BufferHeader)) (input : ℕ) → IsLaidOut l t s → input < length t.inputs
    → (came_in t s n places).input input ≡ input_piece t n (carried_from 0 places) input
came t s l n places input laid b =
    let inputs = laid.terms.inputs in
    let frame : s.input_frame ≡ frame_bytes_of (format_at t input) =
    laid.input_frame (omega (arith, b, inputs)) ∙ sym (laid.terms.input input (omega (arith, b, inputs))) in
    at_input t n 0 places (silence (sizes_of s n)) input (omega arith) b
    ∙ ap (λ bytes. by_front t n (replicate (n * bytes) 0) input (find (is_for_port input) (carried_from 0 places))) frame
    ∙ by_zeros t n input (find (is_for_port input) (carried_from 0 places))
