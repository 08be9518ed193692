-- A work of a component that goes out of a graph: what is true of its part and of its headers.
use Rattle.std.proofs.Common.{◌≡◌, ℕ, suc, zero, ◌+◌, ◌<◌, ◌≤◌, Bool, true, false, not, ◌&&◌, nat_lt, nat_le, List, [], ◌∷◌, length, map, filter, Option, Some, None, option_map, slice_get, refl, sym, ◌∙◌, ap, subst, arith}
use Rattle.std.specs.Prelude.{is_some}
use Rattle.std.proofs.Math.ListN.{get_or}
use Rattle.std.proofs.lemmas.Bool.Decides.{nat_tests}
use Rattle.std.proofs.lemmas.List.{length-map}
use Rattle.std.proofs.lemmas.Option.{slice_get-map}
use Rattle.part_api.specs.Terms.{Terms}
use Rattle.il_machine.specs.declared.port.Port.{Port}
use Rattle.il_machine.specs.declared.port.PortKey.{PortKey}
use Rattle.il_machine.specs.declared.port.PortSetting.{PortSetting}
use Rattle.il_machine.specs.declared.port.PortState.{PortState}
use Rattle.il_machine.specs.Lists.{first_of_these, is_empty}
use Rattle.il_machine.specs.Kinds.{inputs_of, outputs_of, is_input}
use Rattle.omx_types.specs.Formats.{frame_bytes_of}
use Rattle.il_machine.specs.Settings.{is_between, is_within_limits, same_bool}
use Rattle.il_machine.specs.World.{Component, number_of, ports_from, ports_of}
use Rattle.il_machine.specs.Headers.{Seen}
use Rattle.il_machine.specs.Look.{Look}
use Rattle.il_machine.specs.Ports.{is_input_port}
use Rattle.il_machine.specs.Claims.{claim_idle, gives_header, is_output_port, must_announce, room_test}
use Rattle.il_machine.specs.Sound.{IsSound, IsLawfulSetting}
use Rattle.il_machine.specs.Stock.{Stocked}
use Rattle.machine_laws.proofs.Accepting.{passed}
use Rattle.machine_laws.proofs.Claiming.{claim_passes}
use Rattle.header_core.specs.BufferHeader.{BufferHeader}
use Rattle.port_stock.specs.Conditions.{number_of as header_number}
use Rattle.graph_core.specs.Claiming.{AreFree, AreFronts, gives_to, key_at, out_where}
use Rattle.graph_core.proofs.Picked.{Agree, agree_next}
use Rattle.audio_parts.specs.Shapes.{IsLawful}
use Rattle.audio_parts.specs.Shown.{ShownPart}
use Rattle.il_flow.specs.Layouts.{ports_of as ports_by}
use Rattle.il_flow.specs.Places.{AreWithin, carried_from}
use Rattle.il_flow.specs.Sound.{HaveOutputs}
use Rattle.il_graph.specs.Shown.{IsPartOf, ArePartsOf}

-- ---- its part

part_of_it : {S K P : Type 0} (f : P → ShownPart S K) (c : Component) (x : ShownPart S K) → IsPartOf c x → (o : Option P) → option_map f o ≡ Some x → (p : P) × (o ≡ Some p) × IsPartOf c (f p)
part_of_it f c x T None e = absurd cc
part_of_it f c x T (Some p) e = let q : f p ≡ x = cc in (p, refl, subst (IsPartOf c) (sym q) T)

pub part_there : {S K P : Type 0} (f : P → ShownPart S K) (cs : List Component) (items : List (Option P)) (i : ℕ) (c : Component) (o : Option P) → ArePartsOf cs (map (option_map f) items) → slice_get cs i ≡ Some c → c.work ≡ None
    → slice_get items i ≡ Some o → (p : P) × (o ≡ Some p) × IsPartOf c (f p)
part_there f cs items i c o A at free here =
    let x = A.there i c at free in
    let e : Some (option_map f o) ≡ Some (Some x.0) = sym (slice_get-map (option_map f) items i ∙ ap (option_map (option_map f)) here) ∙ x.1 in
    let d : option_map f o ≡ Some x.0 = cc in
    part_of_it f c x.0 x.2 o d

-- ---- the numbers of its headers

free_within : (port count : ℕ) (places : List (Option BufferHeader)) → AreFree places → AreWithin count port places
free_within port count [] h = tt
free_within port count (None ∷ places) h = (tt, free_within (port + 1) count places h.1)
free_within port count (Some x ∷ places) h = absurd (let e = h.0 in cc)

fronts_within : (component port count : ℕ) (flags : List Bool) (places : List (Option BufferHeader)) (s : Stocked) → port + length flags ≤ count → AreFronts component port flags places s → AreWithin count port places
fronts_within component port count [] places s b F = free_within port count places F
fronts_within component port count (gives ∷ flags) [] s b F = absurd F
fronts_within component port count (gives ∷ flags) (None ∷ places) s b F = (tt, fronts_within component (port + 1) count flags places (out_where gives (key_at component port) s) (omega (arith, b)) F.1)
fronts_within component port count (gives ∷ flags) (Some h ∷ places) s b F = (omega (arith, b), fronts_within component (port + 1) count flags places (out_where gives (key_at component port) s) (omega (arith, b)) F.1)

-- an announcement has none
free_carried : (port : ℕ) (places : List (Option BufferHeader)) → AreFree places → carried_from port places ≡ []
free_carried port [] h = refl
free_carried port (None ∷ places) h = free_carried (port + 1) places h.1
free_carried port (Some x ∷ places) h = absurd (let e = h.0 in cc)

none_given : (component port : ℕ) (ps : List Port) (c : Component) (places : List (Option BufferHeader)) (s : Stocked) → AreFronts component port (map (gives_to true c) ps) places s → carried_from port places ≡ []
none_given component port [] c places s F = free_carried port places F
none_given component port (p ∷ ps) c [] s F = absurd F
none_given component port (p ∷ ps) c (None ∷ places) s F = none_given component (port + 1) ps c places s F.1
none_given component port (p ∷ ps) c (Some h ∷ places) s F = absurd (let e = F.0 in cc)

-- ---- each output gives one

waits_there : (place : Option BufferHeader) (ns : List ℕ) → option_map header_number place ≡ slice_get ns 0 → is_empty ns ≡ false → is_some place ≡ true
waits_there None [] e w = absurd cc
waits_there None (n ∷ ns) e w = absurd cc
waits_there (Some h) ns e w = refl

-- a port that gives a header, and whose todo has one, at the number
front_there : (component port : ℕ) (flags : List Bool) (places : List (Option BufferHeader)) (s : Stocked) (t : Seen) (k : ℕ) → Agree component port s t → AreFronts component port flags places s
    → slice_get flags k ≡ Some true → is_empty (t.todo (key_at component (port + k))) ≡ false → is_some (get_or places k None) ≡ true
front_there component port [] places s t k A F e w = absurd cc
front_there component port (gives ∷ flags) [] s t k A F e w = absurd F
front_there component port (true ∷ flags) (place ∷ places) s t zero A F e w =
    let z : port + 0 ≡ port = omega arith in
    let a : s.headers.todo (key_at component port) ≡ t.todo (key_at component port) = A port (omega arith) in
    waits_there place (s.headers.todo (key_at component port)) F.0.0 (ap is_empty a ∙ subst (λ (n : ℕ). is_empty (t.todo (key_at component n)) ≡ false) z w)
front_there component port (false ∷ flags) (place ∷ places) s t zero A F e w = absurd cc
front_there component port (gives ∷ flags) (place ∷ places) s t (suc k) A F e w =
    let z : port + suc k ≡ port + 1 + k = omega arith in
    front_there component (port + 1) flags places (out_where gives (key_at component port) s) t k (agree_next component port gives s t A) F.1 e (subst (λ (n : ℕ). is_empty (t.todo (key_at component n)) ≡ false) z w)

-- the port is an output that gives a header, and passes the test for room
room_passed : (headers : Seen) (f : Port → Bool) (ps : List Port) (k : ℕ) (p : Port) → first_of_these (map (room_test headers) (filter is_output_port (filter f ps))) ≡ None → slice_get ps k ≡ Some p
    → f p ≡ true → is_output_port p ≡ true → is_empty (headers.todo p.key) ≡ false
room_passed headers f [] k p h e a b = absurd cc
room_passed headers f (x ∷ ps) zero p h e a b =
    let q : x ≡ p = cc in
    let h' : first_of_these (map (room_test headers) (filter is_output_port (filter f (p ∷ ps)))) ≡ None = subst (λ (y : Port). first_of_these (map (room_test headers) (filter is_output_port (filter f (y ∷ ps)))) ≡ None) q h in
    let z : first_of_these (map (room_test headers) (p ∷ filter is_output_port (filter f ps))) ≡ None = rw (a, b) at h' in
    (passed _ _ _ z).0
room_passed headers f (x ∷ ps) (suc k) p h e a b = room_passed headers f ps k p (rest_passed headers f x ps h) e a b
  where
    rest_passed : (headers : Seen) (f : Port → Bool) (x : Port) (ps : List Port) → first_of_these (map (room_test headers) (filter is_output_port (filter f (x ∷ ps)))) ≡ None
        → first_of_these (map (room_test headers) (filter is_output_port (filter f ps))) ≡ None
    rest_passed headers f x ps h = elim (f x) as (λ t. f x ≡ t → first_of_these (map (room_test headers) (filter is_output_port (filter f ps))) ≡ None) [
      | false ↦ λ t. rw t at h
      | true ↦ λ t. elim (is_output_port x) as (λ u. is_output_port x ≡ u → first_of_these (map (room_test headers) (filter is_output_port (filter f ps))) ≡ None) [
        | false ↦ λ u. rw (t, u) at h
        | true ↦ λ u. let z : first_of_these (map (room_test headers) (x ∷ filter is_output_port (filter f ps))) ≡ None = rw (t, u) at h in (passed _ _ _ z).1
      ] refl
    ] refl

-- the port of the number has its key and its setting
port_there : (number index : ℕ) (ss : List PortSetting) (ps : List PortState) (k : ℕ) → length ps ≡ length ss → k < length ss
    → (p : Port) × (slice_get (ports_from number index ss ps) k ≡ Some p) × (p.key ≡ key_at number (index + k)) × (slice_get ss k ≡ Some p.setting)
port_there number index [] ps k e b = absurd (omega (arith, b))
port_there number index (s ∷ ss) [] k e b = absurd cc
port_there number index (s ∷ ss) (p ∷ ps) zero e b = let z : index ≡ index + 0 = omega arith in (_, refl, ap (key_at number) z, refl)
port_there number index (s ∷ ss) (p ∷ ps) (suc k) e b =
    let x = port_there number (index + 1) ss ps k (omega arith) (omega (arith, b)) in
    let z : index + 1 + k ≡ index + suc k = omega arith in
    (x.0, x.1, x.2 ∙ ap (key_at number) z, x.3)

flag_there : (f : Port → Bool) (ps : List Port) (k : ℕ) (p : Port) → slice_get ps k ≡ Some p → slice_get (map f ps) k ≡ Some (f p)
flag_there f ps k p e = slice_get-map f ps k ∙ ap (option_map f) e

same_of : (a b : Bool) → same_bool a b ≡ true → a ≡ b
same_of true true h = refl
same_of false false h = refl
same_of true false h = absurd cc
same_of false true h = absurd cc

last_of : (a b c d e : Bool) → (a && (b && (c && (d && (e && true))))) ≡ true → e ≡ true
last_of true true true true true h = refl
last_of true true true true false h = absurd cc
last_of true true true false e h = absurd cc
last_of true true false d e h = absurd cc
last_of true false c d e h = absurd cc
last_of false b c d e h = absurd cc

module _ (l : Look) (c : Component) (S : IsSound c) (ok : claim_idle l c ≡ None) (places : List (Option BufferHeader)) (s : Stocked) (same : s.headers ≡ l.headers) (t : Terms) (kind : t.kind ≡ c.settings.kind) (lawful : IsLawful t) (a : Bool) (tells : a ≡ must_announce c)
    (F : AreFronts (number_of c) 0 (map (gives_to a c) (ports_of c)) places s) where
  many : length c.ports ≡ length c.settings.ports
  many = S.ports ∙ sym S.whole.ports

  count : ports_by t ≡ length c.settings.ports
  count = ap (λ n. n + length t.outputs) (lawful.input_count ∙ ap inputs_of kind) ∙ (ap (λ n. inputs_of c.settings.kind + n) (lawful.output_count ∙ ap outputs_of kind) ∙ sym S.whole.ports)

  ports_many : (number index : ℕ) (ss : List PortSetting) (ps : List PortState) → length ps ≡ length ss → length (ports_from number index ss ps) ≡ length ss
  ports_many number index [] ps e = refl
  ports_many number index (x ∷ ss) [] e = absurd cc
  ports_many number index (x ∷ ss) (p ∷ ps) e = ap suc (ports_many number (index + 1) ss ps (omega arith))

  pub lent_within : AreWithin (ports_by t) 0 places
  lent_within =
      let n = length-map (ports_of c) (gives_to a c) in
      let m = ports_many (number_of c) 0 c.settings.ports c.ports many in
      let k = count in
      fronts_within (number_of c) 0 (ports_by t) (map (gives_to a c) (ports_of c)) places s (omega (arith, n, m, k)) F

  pub lent_none : a ≡ true → carried_from 0 places ≡ []
  lent_none e = none_given (number_of c) 0 (ports_of c) c places s (subst (λ (b : Bool). AreFronts (number_of c) 0 (map (gives_to b c) (ports_of c)) places s) e F)

  output_of : (k : ℕ) (p : Port) → slice_get c.settings.ports k ≡ Some p.setting → inputs_of c.settings.kind ≤ k → is_input_port p ≡ false
  output_of k p e b =
      let L : IsLawfulSetting c.settings k p.setting = S.settings k p.setting e in
      let d = p.setting.definition in
      let z = same_of d.input (is_input c.settings.kind k) (last_of (is_within_limits d.format) (is_between 1 32 d.count) (is_between 1 4096 d.size) (nat_le (frame_bytes_of d.format) d.size) (same_bool d.input (is_input c.settings.kind k)) L.0) in
      let n : nat_lt k (inputs_of c.settings.kind) ≡ false = grind (arith, nat_tests) in
      z ∙ n

  pub lent_outputs : a ≡ false → HaveOutputs t places
  lent_outputs e port lower upper =
      let steps : must_announce c ≡ false = sym tells ∙ e in
      let n : port < length c.settings.ports = let k = count in omega (arith, k, upper) in
      let x = port_there (number_of c) 0 c.settings.ports c.ports port many n in
      let p = x.0 in
      let b : inputs_of c.settings.kind ≤ port = let z = lawful.input_count ∙ ap inputs_of kind in omega (arith, z, lower) in
      let out : is_input_port p ≡ false = output_of port p x.3 b in
      let gives : gives_header c p ≡ true = rw out refl in
      let given : gives_to a c p ≡ true = ap (λ (b : Bool). not b && gives_header c p) e ∙ gives in
      let o : is_output_port p ≡ true = rw out refl in
      let space : first_of_these (map (room_test l.headers) (filter is_output_port (filter (gives_header c) (ports_of c)))) ≡ None = rw steps at (claim_passes l c ok).space in
      let w = room_passed l.headers (gives_header c) (ports_of c) port p space x.1 gives o in
      let v : is_empty (l.headers.todo (key_at (number_of c) (0 + port))) ≡ false = subst (λ (y : PortKey). is_empty (l.headers.todo y) ≡ false) x.2 w in
      front_there (number_of c) 0 (map (gives_to a c) (ports_of c)) places s l.headers port (λ q r. ap (λ (y : Seen). y.todo (key_at (number_of c) q)) same) F
      (flag_there (gives_to a c) (ports_of c) port p x.1 ∙ ap Some given) v
