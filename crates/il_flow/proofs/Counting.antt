-- The frames of a step are within what each header offers.
use Rattle.std.proofs.Common.{◌≡◌, ℕ, ◌+◌, ◌*◌, ◌/◌, ◌<◌, ◌≤◌, Bool, true, false, not, ◌&&◌, nat_lt, List, [], ◌∷◌, length, refl, sym, subst, ◌∙◌, arith}
use Rattle.std.specs.Prelude.{Option, Some, None, IfSome, is_some}
use Rattle.std.specs.List.{AllByRecursion}
use Rattle.std.proofs.Math.Nat.{div-mul-le_self, mul-le-mul_left, mul-le-mul_right}
use Rattle.std.proofs.lemmas.Bool.Decides.{nat_tests}
use Rattle.omx_types.specs.declared.kind.Kind.{Kind}
use Rattle.omx_types.specs.declared.kind.Kind.TheVariants as kinds
use Rattle.part_api.specs.Streams.{Shape}
use Rattle.part_api.specs.Terms.{Terms}
use Rattle.part_forms.specs.Kinds.{inputs_of, is_source, outputs_of}
use Rattle.audio_parts.specs.Shapes.{IsLawful}
use Rattle.il_machine.specs.Lists.{least}
use Rattle.il_machine.specs.Claims.{CarriedHeader}
use Rattle.il_machine.specs.Stepping.{all_frames_at, frames_at, has_input, is_in, is_last}
use Rattle.header_core.specs.BufferHeader.{BufferHeader, IsSized}
use Rattle.il_flow.specs.declared.layout.Layout.{Layout}
use Rattle.il_flow.specs.Layouts.{HasLayout, IsLaidOut}
use Rattle.il_flow.specs.Places.{EachFrom, Offer, carried, carried_from}
use Rattle.il_flow.specs.Sound.{HaveOutputs}
use Rattle.il_flow.specs.Steps.{frames_by}

lower_all : (n m : ℕ) (ns : List ℕ) → n ≤ m → AllByRecursion (λ k. m ≤ k) ns → AllByRecursion (λ k. n ≤ k) ns
lower_all n m [] l h = tt
lower_all n m (k ∷ ks) l h = let a = h.0 in (omega (arith, l, a), lower_all n m ks l h.1)

least_below : (n : ℕ) (ns : List ℕ) → AllByRecursion (λ k. least (n ∷ ns) ≤ k) (n ∷ ns)
least_below n [] = (omega arith, tt)
least_below n (m ∷ ns) =
    let rest = least_below m ns in
    (omega arith, lower_all (least (n ∷ m ∷ ns)) (least (m ∷ ns)) (m ∷ ns) (omega arith) rest)

all_least : (ns : List ℕ) → AllByRecursion (λ k. least ns ≤ k) ns
all_least [] = tt
all_least (n ∷ ns) = least_below n ns

-- ---- what each header offers

of_first : (t : Terms) (n : ℕ) (x : CarriedHeader) (xs : List CarriedHeader) (last : Bool) → is_last t 0 x ≡ last → AllByRecursion (λ k. n ≤ k) (all_frames_at t (x ∷ xs))
    → AllByRecursion (λ k. n ≤ k) (all_frames_at t xs) × (is_last t 0 x ≡ false → n ≤ frames_at t x)
of_first t n x xs true e h = (rw e at h, λ f. absurd (cc))
of_first t n x xs false e h = let k = rw e at h in (k.1, λ f. k.0)

offered : (t : Terms) (n port : ℕ) (places : List (Option BufferHeader)) → AllByRecursion (λ k. n ≤ k) (all_frames_at t (carried_from port places)) → Offer t n port places
offered t n port [] h = tt
offered t n port (None ∷ places) h = (tt, offered t n (port + 1) places h)
offered t n port (Some x ∷ places) h =
    let k = of_first t n (carried port x) (carried_from (port + 1) places) (is_last t 0 (carried port x)) refl h in
    (k.1, offered t n (port + 1) places k.0)

none_offered : (t : Terms) (port : ℕ) (places : List (Option BufferHeader)) → Offer t 0 port places
none_offered t port [] = tt
none_offered t port (None ∷ places) = (tt, none_offered t (port + 1) places)
none_offered t port (Some x ∷ places) = (λ e. omega arith, none_offered t (port + 1) places)

by_inputs : (t : Terms) (places : List (Option BufferHeader)) (some : Bool) → has_input t (carried_from 0 places) ≡ some → Offer t (frames_by None t (carried_from 0 places)) 0 places
by_inputs t places true e = rw e (offered t (least (all_frames_at t (carried_from 0 places))) 0 places (all_least (all_frames_at t (carried_from 0 places))))
by_inputs t places false e = rw e (none_offered t 0 places)

-- so many frames are in each header, or fit into it
pub offers : (left : Option ℕ) (t : Terms) (places : List (Option BufferHeader)) → Offer t (frames_by left t (carried_from 0 places)) 0 places
offers None t places = by_inputs t places (has_input t (carried_from 0 places)) refl
offers (Some left) t places = offered t (least (left ∷ all_frames_at t (carried_from 0 places))) 0 places (least_below left (all_frames_at t (carried_from 0 places))).1

pub are_there : (left : Option ℕ) (t : Terms) (xs : List CarriedHeader) → IfSome left (λ there. frames_by left t xs ≤ there)
are_there None t xs = tt
are_there (Some left) t xs = (least_below left (all_frames_at t xs)).0

-- ---- few samples

pub record AreFew (frames channels : ℕ) : Type 0 where
  pub frames_few : frames ≤ 4096
  pub samples : frames * channels ≤ 4096

few_by : (frames frame channels bytes : ℕ) → frames ≤ bytes / frame → bytes ≤ 4096 → 1 ≤ frame → channels ≤ frame → AreFew frames channels
few_by frames frame channels bytes l most some few =
    let a : frames * frame ≤ bytes / frame * frame = mul-le-mul_right frame l in
    let b : bytes / frame * frame ≤ bytes = div-mul-le_self bytes frame in
    let one : frames * 1 ≤ frames * frame = mul-le-mul_left frames some in
    let c : frames * channels ≤ frames * frame = mul-le-mul_left frames few in
    record { frames_few = omega (arith, a, b, one, most); samples = omega (arith, a, b, c, most) }

none_few : (channels : ℕ) → AreFew 0 channels
none_few channels = record { frames_few = omega arith; samples = omega arith }

and_left : (a b : Bool) → (a && b) ≡ true → a ≡ true
and_left true b e = refl
and_left false b e = e

and_right : (a b : Bool) → (a && not b) ≡ true → b ≡ false
and_right true true e = sym e
and_right true false e = refl
and_right false b e = absurd (cc)

lt_of : (a b : ℕ) → nat_lt a b ≡ true → a < b
lt_of a b e = grind (arith, nat_tests)

-- an input's header with frames has few bytes
input_or : (t : Terms) (l : Layout) (n port channels : ℕ) (h : BufferHeader) (xs : List CarriedHeader) (gives : Bool) → (is_in t (carried port h) && not (is_last t 0 (carried port h))) ≡ gives
    → HasLayout l t → 1 ≤ l.input_frame → (1 ≤ l.inputs → channels ≤ l.input_frame) → (is_last t 0 (carried port h) ≡ false → n ≤ frames_at t (carried port h)) → IsSized h
    → (has_input t xs ≡ true → AreFew n channels) → has_input t (carried port h ∷ xs) ≡ true → AreFew n channels
input_or t l n port channels h xs false e lay some few offer sized rest all = rest (rw e at all)
input_or t l n port channels h xs true e lay some few offer sized rest all =
    let inside : is_in t (carried port h) ≡ true = and_left (is_in t (carried port h)) (not (is_last t 0 (carried port h))) e in
    let below : port < l.inputs = subst (λ n. port < n) lay.inputs (lt_of port (length t.inputs) inside) in
    let m : n ≤ length h.held.content / l.input_frame = subst (λ f. n ≤ length h.held.content / f) (lay.input port below) (rw inside at (offer (and_right (is_in t (carried port h)) (is_last t 0 (carried port h)) e))) in
    let a = sized.content in let b = sized.limit in
    few_by n l.input_frame channels (length h.held.content) m (omega (arith, a, b)) some (few (omega (arith, below)))

by_input : (t : Terms) (l : Layout) (n port channels : ℕ) (places : List (Option BufferHeader)) → HasLayout l t → 1 ≤ l.input_frame → (1 ≤ l.inputs → channels ≤ l.input_frame)
    → Offer t n port places → EachFrom (λ port h. IsSized h) port places → has_input t (carried_from port places) ≡ true → AreFew n channels
by_input t l n port channels [] lay some few offer sized gives = absurd (cc)
by_input t l n port channels (None ∷ places) lay some few offer sized gives = by_input t l n (port + 1) channels places lay some few offer.1 sized.1 gives
by_input t l n port channels (Some h ∷ places) lay some few offer sized gives =
    input_or t l n port channels h (carried_from (port + 1) places) (is_in t (carried port h) && not (is_last t 0 (carried port h))) refl lay some few offer.0 sized.0
    (by_input t l n (port + 1) channels places lay some few offer.1 sized.1) gives

none_below : (n : ℕ) → n ≡ 0 → nat_lt 0 n ≡ false
none_below n e = grind (arith, nat_tests)

-- the header of a source's output has few bytes
by_output : (t : Terms) (l : Layout) (n channels : ℕ) (places : List (Option BufferHeader)) → HasLayout l t → 1 ≤ l.output_frame → channels ≤ l.output_frame
    → length t.inputs ≡ 0 → 1 ≤ length t.outputs → Offer t n 0 places → EachFrom (λ port h. IsSized h) 0 places → HaveOutputs t places → AreFew n channels
by_output t l n channels [] lay some few i o offer sized there = absurd (let e = there 0 (omega (arith, i)) (omega (arith, i, o)) in cc)
by_output t l n channels (None ∷ places) lay some few i o offer sized there = absurd (let e = there 0 (omega (arith, i)) (omega (arith, i, o)) in cc)
by_output t l n channels (Some h ∷ places) lay some few i o offer sized there =
    let outside : is_in t (carried 0 h) ≡ false = none_below (length t.inputs) i in
    let last : is_last t 0 (carried 0 h) ≡ false = rw outside refl in
    let none : l.inputs ≡ 0 = sym lay.inputs ∙ i in
    let m : n ≤ h.held.size / l.output_frame = subst (λ f. n ≤ h.held.size / f) (lay.output 0 (omega (arith, none)) (omega (arith, i, o))) (rw outside at (offer.0 last)) in
    few_by n l.output_frame channels h.held.size m sized.0.limit some few

pub source_ports : (kind : Kind) → is_source kind ≡ true → (inputs_of kind ≡ 0) × (outputs_of kind ≡ 1)
source_ports kinds.Source e = (refl, refl)
source_ports kinds.Late e = (refl, refl)
source_ports kinds.Decoder e = absurd (cc)
source_ports kinds.Alaw e = absurd (cc)
source_ports kinds.Mulaw e = absurd (cc)
source_ports kinds.Gain e = absurd (cc)
source_ports (kinds.Mixer inputs) e = absurd (cc)
source_ports (kinds.Splitter outputs) e = absurd (cc)
source_ports kinds.Sink e = absurd (cc)

without_left : (t : Terms) (l : Layout) (channels : ℕ) (places : List (Option BufferHeader)) (gives : Bool) → has_input t (carried_from 0 places) ≡ gives → HasLayout l t → 1 ≤ l.input_frame
    → (1 ≤ l.inputs → channels ≤ l.input_frame) → EachFrom (λ port h. IsSized h) 0 places → AreFew (frames_by None t (carried_from 0 places)) channels
without_left t l channels places false e lay some few sized = rw e (none_few channels)
without_left t l channels places true e lay some few sized =
    by_input t l (frames_by None t (carried_from 0 places)) 0 channels places lay some few (offers None t places) sized e

-- the step has few frames and samples
pub counted : (left : Option ℕ) (t : Terms) (s : Shape) (l : Layout) (places : List (Option BufferHeader)) → IsLaidOut l t s → 1 ≤ l.input_frame → 1 ≤ l.output_frame
    → is_some left ≡ is_source t.kind → IsLawful t → EachFrom (λ port h. IsSized h) 0 places → HaveOutputs t places → AreFew (frames_by left t (carried_from 0 places)) s.channels
counted None t s l places laid i o k lawful sized there = without_left t l s.channels places (has_input t (carried_from 0 places)) refl laid.terms i laid.few_in sized
counted (Some left) t s l places laid i o k lawful sized there =
    let ports = source_ports t.kind (sym k) in
    let none : length t.inputs ≡ 0 = lawful.input_count ∙ ports.0 in
    let one : length t.outputs ≡ 1 = lawful.output_count ∙ ports.1 in
    let out : 1 ≤ s.outputs = let e = laid.outputs in omega (arith, one, e) in
    by_output t l (frames_by (Some left) t (carried_from 0 places)) s.channels places laid.terms o (laid.few_out out) none (omega (arith, one)) (offers (Some left) t places) sized there
