-- A tunnel is set up, and dropped.
use Rattle.std.proofs.Common.{◌≡◌, ◌≢◌, ℕ, ◌≤◌, Bool, true, false, not, ◌&&◌, ◌||◌, nat_eq, nat_le, max, List, set, slice_get, Option, Some, None, refl, sym, ◌∙◌, ap, subst, eq-eqb, eqb-true, leb-true, le-leb, arith}
use Rattle.omx_types.specs.declared.param.PortDefinition.{PortDefinition}
use Rattle.omx_types.specs.declared.param.Supplier.{Supplier}
use Rattle.omx_types.specs.declared.param.Supplier.TheVariants.{Unspecified, Input, Output}
use Rattle.omx_types.specs.declared.format.Format.{Format}
use Rattle.omx_types.specs.declared.format.Format.TheVariants.{Pcm, Alaw, Mulaw, Auto}
use Rattle.omx_types.specs.Formats.{frame_bytes_of}
use Rattle.il_machine.specs.declared.port.PortKey.{PortKey}
use Rattle.il_machine.specs.declared.port.Link.{Link}
use Rattle.il_machine.specs.declared.port.Port.{Port}
use Rattle.il_machine.specs.declared.port.PortSetting.{PortSetting}
use Rattle.il_machine.specs.declared.port.PortState.{PortState}
use Rattle.il_machine.specs.States.{is_invalid}
use Rattle.il_machine.specs.Lists.{holds_at}
use Rattle.il_machine.specs.Kinds.{is_input}
use Rattle.il_machine.specs.Settings.{is_between, is_within_limits, same_bool, same_format, is_definition_of, with_setting}
use Rattle.il_machine.specs.World.{Component, World, number_of, same_handle, ports_from, port_of, with_port}
use Rattle.il_machine.specs.Headers.{Seen, same_key, count_headers, is_for}
use Rattle.il_machine.specs.Look.{look}
use Rattle.il_machine.specs.Ports.{is_input_port, has_no_header}
use Rattle.il_machine.specs.Room.{port_reserve}
use Rattle.il_machine.specs.Parameters.{is_fixed}
use Rattle.il_machine.specs.Tunnels.{agreed, are_output_and_input, setup_refusal, widened, joined_to, both_joined, agreed_of, is_joined_with, drop_refusal, parted, both_parted}
use Rattle.il_machine.specs.Sound.{Sound, IsSound, AreJoined, port_at}
use Rattle.machine_laws.proofs.Keys.{key_is, is_there}
use Rattle.machine_laws.proofs.Lookups.{port_parts, port_there_at}
use Rattle.machine_laws.proofs.Ties.{other_side}
use Rattle.machine_laws.proofs.Parts.{Parts, ports_in_list, parts_of, sound_from}
use Rattle.machine_laws.proofs.Units.{IsAside, aside_twice}
use Rattle.machine_laws.proofs.Change.{aside_there}
use Rattle.machine_laws.proofs.Arriving.{used_with_port, lawful_with_port, aside_with_port}
use Rattle.machine_laws.proofs.Rooms.{lawful_of, sound_with}
use Rattle.machine_laws.proofs.Accepting.{passed, not_either, not_not, both_of, is_not}
use Rattle.machine_laws.proofs.Fitting.{fit_setting, file_setting}
use Rattle.machine_laws.proofs.Values.{sound_setting, aside_setting, fixed_loose}
use Rattle.machine_laws.proofs.Pairs.{resources_paired, apart_numbers, IsOnePort, key_at, parts_paired, port_over, port_else, set_same}

-- ---- the port at its own number

at_own : (c : Component) (index : ℕ) (p : Port) → port_of c index ≡ Some p → port_of c p.key.port ≡ Some p
at_own c index p e = ap (port_of c) (ap (λ k. k.port) (port_parts c index p e).key) ∙ e

own_key : (c : Component) (index : ℕ) (p : Port) → port_of c index ≡ Some p → p.key ≡ key_at c p.key.port
own_key c index p e = (port_parts c p.key.port p (at_own c index p e)).key

-- ---- definitions

pub record DefinitionParts (input : Bool) (d : PortDefinition) : Type 0 where
  pub limits : is_within_limits d.format ≡ true
  pub least_count : 1 ≤ d.count
  pub most_count : d.count ≤ 32
  pub least_size : 1 ≤ d.size
  pub most_size : d.size ≤ 4096
  pub frame : frame_bytes_of d.format ≤ d.size
  pub direction : same_bool d.input input ≡ true

pub definition_parts : (input : Bool) (d : PortDefinition) → is_definition_of input d ≡ true → DefinitionParts input d
definition_parts input d h =
    let a = both_of (is_within_limits d.format) _ h in
    let b = both_of (is_between 1 32 d.count) _ a.1 in
    let e = both_of (is_between 1 4096 d.size) _ b.1 in
    let f = both_of (nat_le (frame_bytes_of d.format) d.size) _ e.1 in
    let g = both_of (same_bool d.input input) _ f.1 in
    let x = both_of (nat_le 1 d.count) (nat_le d.count 32) b.0 in
    let y = both_of (nat_le 1 d.size) (nat_le d.size 4096) e.0 in
    record {
      limits = a.0;
      least_count = leb-true 1 d.count x.0;
      most_count = leb-true d.count 32 x.1;
      least_size = leb-true 1 d.size y.0;
      most_size = leb-true d.size 4096 y.1;
      frame = leb-true (frame_bytes_of d.format) d.size f.0;
      direction = g.0;
    }

definition_from : (input : Bool) (d : PortDefinition) → DefinitionParts input d → is_definition_of input d ≡ true
definition_from input d P = rw (P.limits, le-leb 1 d.count P.least_count, le-leb d.count 32 P.most_count, le-leb 1 d.size P.least_size, le-leb d.size 4096 P.most_size, le-leb (frame_bytes_of d.format) d.size P.frame, P.direction) refl

widened_good : (input other : Bool) (p q : Port) → is_definition_of input p.setting.definition ≡ true → is_definition_of other q.setting.definition ≡ true → is_definition_of input (widened p q).definition ≡ true
widened_good input other p q a b =
    let A = definition_parts input p.setting.definition a in
    let B = definition_parts other q.setting.definition b in
    definition_from input (widened p q).definition (record {
      limits = A.limits;
      least_count = omega (arith, A.least_count);
      most_count = omega (arith, A.most_count, B.most_count);
      least_size = omega (arith, A.least_size);
      most_size = omega (arith, A.most_size, B.most_size);
      frame = omega (arith, A.frame);
      direction = A.direction;
    })

flipped : (r s n m : ℕ) → (nat_eq r s && nat_eq n m) ≡ true → (nat_eq s r && nat_eq m n) ≡ true
flipped r s n m h =
    let b = both_of (nat_eq r s) (nat_eq n m) h in
    rw (eq-eqb s r (sym (eqb-true r s b.0)), eq-eqb m n (sym (eqb-true n m b.1))) refl

same_format_sym : (f g : Format) → same_format f g ≡ true → same_format g f ≡ true
same_format_sym (Pcm r n) (Pcm s m) h = flipped r s n m h
same_format_sym (Alaw r n) (Alaw s m) h = flipped r s n m h
same_format_sym (Mulaw r n) (Mulaw s m) h = flipped r s n m h
same_format_sym (Pcm r n) (Alaw s m) h = absurd cc
same_format_sym (Pcm r n) (Mulaw s m) h = absurd cc
same_format_sym (Alaw r n) (Pcm s m) h = absurd cc
same_format_sym (Alaw r n) (Mulaw s m) h = absurd cc
same_format_sym (Mulaw r n) (Pcm s m) h = absurd cc
same_format_sym (Mulaw r n) (Alaw s m) h = absurd cc
same_format_sym Auto Auto h = refl
same_format_sym Auto (Pcm s m) h = absurd cc
same_format_sym Auto (Alaw s m) h = absurd cc
same_format_sym Auto (Mulaw s m) h = absurd cc
same_format_sym (Pcm r n) Auto h = absurd cc
same_format_sym (Alaw r n) Auto h = absurd cc
same_format_sym (Mulaw r n) Auto h = absurd cc

-- ---- one end

abbrev joined_port : Port → Supplier → Port → Port
joined_port q supplier p = record { key = p.key; setting = widened p q; state = record p.state { link = Some (record { peer = q.key; supplier = supplier }) } }

abbrev parted_port : Port → Port
parted_port p = record { key = p.key; setting = p.setting; state = record p.state { link = None } }

one_joined : (c : Component) (q : Port) (supplier : Supplier) (p : Port) → port_of c p.key.port ≡ Some p → IsOnePort c (joined_to q supplier p c) p.key.port (joined_port q supplier p)
one_joined c q supplier p e =
    let x : PortState = record p.state { link = Some (record { peer = q.key; supplier = supplier }) } in
    record {
      number = refl;
      notes = refl;
      here = port_over (number_of c) 0 p.key.port c.settings.ports c.ports (widened p q) x p e;
      others = λ k a. port_else (number_of c) 0 p.key.port k c.settings.ports c.ports (widened p q) x a;
    }

one_parted : (c : Component) (p : Port) → port_of c p.key.port ≡ Some p → IsOnePort c (parted p c) p.key.port (parted_port p)
one_parted c p e =
    let x : PortState = record p.state { link = None } in
    let s = set_same c.settings.ports p.key.port p.setting (port_parts c p.key.port p e).setting in
    record {
      number = refl;
      notes = refl;
      here = subst (λ (ss : List PortSetting). slice_get (ports_from (number_of c) 0 ss (set c.ports p.key.port x)) p.key.port ≡ Some (parted_port p)) s
          (port_over (number_of c) 0 p.key.port c.settings.ports c.ports p.setting x p e);
      others = λ k a. subst (λ (ss : List PortSetting). slice_get (ports_from (number_of c) 0 ss (set c.ports p.key.port x)) k ≡ port_of c k) s
          (port_else (number_of c) 0 p.key.port k c.settings.ports c.ports p.setting x a);
    }

sound_linked : (c : Component) (k : ℕ) (new old : PortState) → IsSound c → slice_get c.ports k ≡ Some old → port_reserve new ≡ port_reserve old → IsSound (with_port k new c)
sound_linked c k new old S e n = let u = used_with_port k new old c e in sound_with (with_port k new c) (lawful_with_port k new c (lawful_of c S)) (omega (arith, S.room))

sound_parted_end : (c : Component) (p : Port) → IsSound c → port_of c p.key.port ≡ Some p → IsSound (parted p c)
sound_parted_end c p S e = sound_linked c p.key.port (record p.state { link = None }) p.state S (port_parts c p.key.port p e).state refl

sound_joined_end : (c d : Component) (q : Port) (supplier : Supplier) (p : Port) → IsSound c → IsSound d → port_of c p.key.port ≡ Some p → port_of d q.key.port ≡ Some q → IsSound (joined_to q supplier p c)
sound_joined_end c d q supplier p S U e f =
    let is = port_parts c p.key.port p e in
    let iq = port_parts d q.key.port q f in
    let L = S.settings p.key.port p.setting is.setting in
    let M = U.settings q.key.port q.setting iq.setting in
    let same : (old : PortSetting) → slice_get c.settings.ports p.key.port ≡ Some old → (widened p q).definition.format ≡ old.definition.format = λ old o.
    let s : Some p.setting ≡ Some old = sym is.setting ∙ o in
    let e : p.setting ≡ old = cc in
    rw (← e) refl in
    let x = sound_setting c p.key.port (widened p q) S (λ old o. (widened_good (is_input c.settings.kind p.key.port) (is_input d.settings.kind q.key.port) p q L.0 M.0, L.1))
    (fit_setting c p.key.port (widened p q) S.fit same) (file_setting c p.key.port (widened p q) S.file same) in
    sound_linked (record c { settings = with_setting p.key.port (widened p q) c.settings }) p.key.port
    (record p.state { link = Some (record { peer = q.key; supplier = supplier }) }) p.state x is.state refl

aside_joined : (c : Component) (q : Port) (supplier : Supplier) (p : Port) → port_of c p.key.port ≡ Some p → IsAside c (joined_to q supplier p c)
aside_joined c q supplier p e =
    let d : Component = record c { settings = with_setting p.key.port (widened p q) c.settings } in
    aside_twice c d (joined_to q supplier p c) (aside_setting c p.key.port (widened p q))
    (aside_with_port p.key.port (record p.state { link = Some (record { peer = q.key; supplier = supplier }) }) p.state d (port_parts c p.key.port p e).state (λ h. h))

aside_parted : (c : Component) (p : Port) → port_of c p.key.port ≡ Some p → IsAside c (parted p c)
aside_parted c p e = aside_with_port p.key.port (record p.state { link = None }) p.state c (port_parts c p.key.port p e).state (λ h. h)

-- ---- set up

record PassedSetup (headers : Seen) (c d : Component) (p q : Port) : Type 0 where
  pub output : is_input_port p ≡ false
  pub input : is_input_port q ≡ true
  pub apart : same_handle c.handle d.handle ≡ false
  pub first : is_fixed headers c p ≡ false
  pub second : is_fixed headers d q ≡ false
  pub format : same_format p.setting.definition.format q.setting.definition.format ≡ true

setup_passes : (headers : Seen) (c d : Component) (p q : Port) → setup_refusal headers c d (Some p) (Some q) ≡ None → PassedSetup headers c d p q
setup_passes headers c d p q h =
    let a = passed (is_invalid c.state || is_invalid d.state) _ _ h in
    let b = passed (not (not (is_input_port p) && is_input_port q)) _ _ a.1 in
    let e = passed (same_handle c.handle d.handle) _ _ b.1 in
    let f = passed (is_fixed headers c p || is_fixed headers d q) _ _ e.1 in
    let g = passed (not (same_format p.setting.definition.format q.setting.definition.format)) _ _ f.1 in
    let x = both_of (not (is_input_port p)) (is_input_port q) (not_not _ b.0) in
    let y = not_either (is_fixed headers c p) (is_fixed headers d q) f.0 in
    record { output = is_not (is_input_port p) x.0; input = x.1; apart = e.0; first = y.0; second = y.1; format = not_not _ g.0 }

same_handle_itself : (c : Component) → same_handle c.handle c.handle ≡ true
same_handle_itself c = rw (eq-eqb c.handle.slot c.handle.slot refl, eq-eqb c.handle.generation c.handle.generation refl) refl

places_apart : (cs : List Component) (i j : ℕ) (c d : Component) → slice_get cs i ≡ Some c → slice_get cs j ≡ Some d → same_handle c.handle d.handle ≡ false → i ≢ j
places_apart cs i j c d t u h e =
    let a : Some c ≡ Some d = sym t ∙ (ap (slice_get cs) e ∙ u) in
    let s : c ≡ d = cc in
    let b : same_handle c.handle d.handle ≡ true = ap (λ (x : Component). same_handle x.handle d.handle) s ∙ same_handle_itself d in
    absurd cc

agreed_is : (a b : Supplier) → agreed a b ≢ Unspecified
agreed_is Unspecified Unspecified e = cc
agreed_is Unspecified Input e = cc
agreed_is Unspecified Output e = cc
agreed_is Input Unspecified e = cc
agreed_is Input Input e = cc
agreed_is Input Output e = cc
agreed_is Output Unspecified e = cc
agreed_is Output Input e = cc
agreed_is Output Output e = cc

max_same : (a b : ℕ) → max a b ≡ max b a
max_same a b = omega arith

both_ends : (supplier : Supplier) (p q : Port) → supplier ≢ Unspecified → is_input_port q ≡ not (is_input_port p) → same_format q.setting.definition.format p.setting.definition.format ≡ true → q.key.component ≢ p.key.component
    → AreJoined (joined_port q supplier p) (record { peer = q.key; supplier = supplier }) (joined_port p supplier q)
both_ends supplier p q s i f a = record {
  back = refl;
  direction = i;
  supplier = s;
  count = max_same q.setting.definition.count p.setting.definition.count;
  size = max_same q.setting.definition.size p.setting.definition.size;
  format = f;
  apart = a;
}

-- no other port is joined to one that is joined to none
alone_apart : (w : World) (k : PortKey) (p : Port) → Parts w.components w.headers w.numbered w.made → port_at k w.components ≡ Some p → p.state.link ≡ None
    → (key : PortKey) (o : Port) (link : Link) → port_at key w.components ≡ Some o → o.state.link ≡ Some link → link.peer ≢ k
alone_apart w k p P e l key o link f g h =
    let q = other_side (ports_in_list w.components) w.headers key o link P.tied f g in
    let a : Some q.0 ≡ Some p = sym q.1 ∙ (ap (λ (x : PortKey). port_at x w.components) h ∙ e) in
    let is : q.0 ≡ p = cc in
    let back : p.state.link ≡ Some (record { peer = o.key; supplier = link.supplier }) = rw is at (q.2).back in
    absurd cc

pub sound_joined : (w : World) (i : ℕ) (c : Component) (output : ℕ) (p : Port) (j : ℕ) (d : Component) (input : ℕ) (q : Port) → Sound w
    → slice_get w.components i ≡ Some c → port_of c output ≡ Some p → slice_get w.components j ≡ Some d → port_of d input ≡ Some q
    → setup_refusal (look w).headers c d (port_of c output) (port_of d input) ≡ None → Sound (both_joined (agreed_of p q) i c p j d q w)
sound_joined w i c output p j d input q S t e u f h =
    let P = parts_of w S in
    let A = setup_passes (look w).headers c d p q (rw (e, f) at h) in
    let supplier : Supplier = agreed_of p q in
    let L = fixed_loose w.headers c (Some p) p A.first refl in
    let M = fixed_loose w.headers d (Some q) q A.second refl in
    let e' = at_own c output p e in
    let f' = at_own d input q f in
    let kp = own_key c output p e in
    let kq = own_key d input q f in
    let at : port_at (key_at c p.key.port) w.components ≡ Some p = ap (λ (x : PortKey). port_at x w.components) (sym kp) ∙ port_there_at w.numbered i w.components c output p P.rising t e in
    let bt : port_at (key_at d q.key.port) w.components ≡ Some q = ap (λ (x : PortKey). port_at x w.components) (sym kq) ∙ port_there_at w.numbered j w.components d input q P.rising u f in
    let apart = places_apart w.components i j c d t u A.apart in
    let n = apart_numbers w.numbered i j w.components c d P.rising t u apart in
    let nn : q.key.component ≢ p.key.component = λ x. n (sym (ap (λ k. k.component) kp) ∙ (sym x ∙ ap (λ k. k.component) kq)) in
    let s = agreed_is p.setting.supplier q.setting.supplier in
    let F = aside_there w i c (joined_to q supplier p c) S t (aside_joined c q supplier p e') in
    let F' = aside_there w j d (joined_to p supplier q d) S u (aside_joined d p supplier q f') in
    let J = both_ends supplier p q s (rw (A.input, A.output) refl) (same_format_sym p.setting.definition.format q.setting.definition.format A.format) nn in
    let K = both_ends supplier q p s (rw (A.input, A.output) refl) A.format (λ x. nn (sym x)) in
    sound_from (both_joined supplier i c p j d q w) (parts_paired w.waits w.numbered w.made i j w.components w.headers c d (joined_to q supplier p c) (joined_to p supplier q d) p.key.port q.key.port (joined_port q supplier p) (joined_port p supplier q)
    P t u apart (one_joined c q supplier p e') (one_joined d p supplier q f')
    (sound_joined_end c d q supplier p (P.components i c t) (P.components j d u) e' f') (sound_joined_end d c p supplier q (P.components j d u) (P.components i c t) f' e') F F'
    (λ after first second others. record {
      first = first;
      second = second;
      first_key = kp;
      second_key = kq;
      others = others;
      first_bare = subst (λ (k : PortKey). count_headers (is_for k) w.headers ≡ 0) kp L.bare;
      second_bare = subst (λ (k : PortKey). count_headers (is_for k) w.headers ≡ 0) kq M.bare;
      first_joined = is_there (after q.key) (AreJoined (joined_port q supplier p) (record { peer = q.key; supplier = supplier })) (joined_port p supplier q) (ap after kq ∙ second) J;
      second_joined = is_there (after p.key) (AreJoined (joined_port p supplier q) (record { peer = p.key; supplier = supplier })) (joined_port q supplier p) (ap after kp ∙ first) K;
      apart = λ key o link x y a b. (alone_apart w (key_at c p.key.port) p P at L.alone key o link x y, alone_apart w (key_at d q.key.port) q P bt M.alone key o link x y);
    })) (resources_paired w i j c d (joined_to q supplier p c) (joined_to p supplier q d) S t u apart refl refl F F')

-- ---- dropped

record PassedDrop (headers : Seen) (p q : Port) : Type 0 where
  pub link : Link
  pub is : p.state.link ≡ Some link
  pub peer : link.peer ≡ q.key
  pub first : has_no_header headers p ≡ true
  pub second : has_no_header headers q ≡ true

link_there : (o : Option Link) (q : Port) → holds_at o (λ link. same_key link.peer q.key) ≡ true → (link : Link) × (o ≡ Some link) × (link.peer ≡ q.key)
link_there None q h = absurd cc
link_there (Some link) q h = (link, refl, key_is link.peer q.key h)

drop_passes : (headers : Seen) (p q : Port) → drop_refusal headers (Some p) (Some q) ≡ None → PassedDrop headers p q
drop_passes headers p q h =
    let a = passed (not (are_output_and_input p q)) _ _ h in
    let b = passed (not (is_joined_with p q)) _ _ a.1 in
    let d = passed (not (has_no_header headers p) || not (has_no_header headers q)) _ _ b.1 in
    let y = not_either (not (has_no_header headers p)) (not (has_no_header headers q)) d.0 in
    let l = link_there p.state.link q (not_not _ b.0) in
    record { link = l.0; is = l.1; peer = l.2; first = not_not _ y.0; second = not_not _ y.1 }

-- another port that is joined to one whose link is known is its peer
joined_back : (w : World) (k : PortKey) (p : Port) (link : Link) → Parts w.components w.headers w.numbered w.made → port_at k w.components ≡ Some p → p.state.link ≡ Some link
    → (key : PortKey) (o : Port) (other : Link) → port_at key w.components ≡ Some o → o.state.link ≡ Some other → other.peer ≡ k → key ≡ link.peer
joined_back w k p link P e l key o other f g h =
    let q = other_side (ports_in_list w.components) w.headers key o other P.tied f g in
    let a : Some q.0 ≡ Some p = sym q.1 ∙ (ap (λ (x : PortKey). port_at x w.components) h ∙ e) in
    let is : q.0 ≡ p = cc in
    let back : p.state.link ≡ Some (record { peer = o.key; supplier = other.supplier }) = rw is at (q.2).back in
    let ok : o.key ≡ link.peer = cc in
    sym (P.tied.keyed key o f) ∙ ok

pub sound_parted : (w : World) (i : ℕ) (c : Component) (output : ℕ) (p : Port) (j : ℕ) (d : Component) (input : ℕ) (q : Port) → Sound w
    → slice_get w.components i ≡ Some c → port_of c output ≡ Some p → slice_get w.components j ≡ Some d → port_of d input ≡ Some q
    → drop_refusal (look w).headers (port_of c output) (port_of d input) ≡ None → Sound (both_parted i c p j d q w)
sound_parted w i c output p j d input q S t e u f h =
    let P = parts_of w S in
    let A = drop_passes (look w).headers p q (rw (e, f) at h) in
    let e' = at_own c output p e in
    let f' = at_own d input q f in
    let kp = own_key c output p e in
    let kq = own_key d input q f in
    let here = port_there_at w.numbered i w.components c output p P.rising t e in
    let there = port_there_at w.numbered j w.components d input q P.rising u f in
    let at : port_at (key_at c p.key.port) w.components ≡ Some p = ap (λ (x : PortKey). port_at x w.components) (sym kp) ∙ here in
    let bt : port_at (key_at d q.key.port) w.components ≡ Some q = ap (λ (x : PortKey). port_at x w.components) (sym kq) ∙ there in
    let o = other_side (ports_in_list w.components) w.headers p.key p A.link P.tied here A.is in
    let s : Some o.0 ≡ Some q = sym o.1 ∙ (ap (λ (x : PortKey). port_at x w.components) A.peer ∙ there) in
    let is : o.0 ≡ q = cc in
    let back : q.state.link ≡ Some (record { peer = p.key; supplier = (A.link).supplier }) = rw is at (o.2).back in
    let nn : q.key.component ≢ p.key.component = rw is at (o.2).apart in
    let apart : i ≢ j = λ x.
    let a : Some c ≡ Some d = sym t ∙ (ap (slice_get w.components) x ∙ u) in
    let y : c ≡ d = cc in
    nn (ap (λ k. k.component) kq ∙ (sym (ap number_of y) ∙ sym (ap (λ k. k.component) kp))) in
    let F = aside_there w i c (parted p c) S t (aside_parted c p e') in
    let F' = aside_there w j d (parted q d) S u (aside_parted d q f') in
    sound_from (both_parted i c p j d q w) (parts_paired w.waits w.numbered w.made i j w.components w.headers c d (parted p c) (parted q d) p.key.port q.key.port (parted_port p) (parted_port q)
    P t u apart (one_parted c p e') (one_parted d q f') (sound_parted_end c p (P.components i c t) e') (sound_parted_end d q (P.components j d u) f') F F'
    (λ after first second others. record {
      first = first;
      second = second;
      first_key = kp;
      second_key = kq;
      others = others;
      first_bare = subst (λ (k : PortKey). count_headers (is_for k) w.headers ≡ 0) kp (eqb-true (count_headers (is_for p.key) w.headers) 0 A.first);
      second_bare = subst (λ (k : PortKey). count_headers (is_for k) w.headers ≡ 0) kq (eqb-true (count_headers (is_for q.key) w.headers) 0 A.second);
      first_joined = tt;
      second_joined = tt;
      apart = λ key x link y z a b. (
        (λ g. b (joined_back w (key_at c p.key.port) p A.link P at A.is key x link y z g ∙ (A.peer ∙ kq))),
        (λ g. a (joined_back w (key_at d q.key.port) q (record { peer = p.key; supplier = (A.link).supplier }) P bt back key x link y z g ∙ kp)),
      );
    })) (resources_paired w i j c d (parted p c) (parted q d) S t u apart refl refl F F')
