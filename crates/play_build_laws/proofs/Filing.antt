-- A file comes to its component.
use Rattle.std.proofs.Common.{◌≡◌, ◌≢◌, inl, inr, ℕ, ◌<◌, Bool, true, false, if◌then◌else◌, List, map, length-set, set, slice_get, Some, None, Option, option_map, Result, Ok, refl, sym, ◌∙◌, ap, subst, eq-eqb, ne_eqb, arith}
use Rattle.std.proofs.lemmas.Bool.{cases_eq}
use Rattle.std.proofs.lemmas.Option.{get_or_from_slice_get}
use Rattle.omx_types.specs.declared.handle.Handle.{Handle}
use Rattle.omx_types.specs.declared.error.OmxError.{OmxError}
use Rattle.omx_types.specs.declared.kind.Kind.{Kind}
use Rattle.omx_types.specs.declared.kind.Kind.TheVariants.{Source, Late, Decoder, Alaw, Mulaw, Gain, Mixer, Splitter, Sink}
use Rattle.il_machine.specs.declared.port.PortSetting.{PortSetting}
use Rattle.il_machine.specs.Answers.{Answers, plain}
use Rattle.il_machine.specs.Due.{ClosesTo}
use Rattle.il_machine.specs.Files.{Attach, Offered, attach_refusal, attached, file_port_format, is_bad_file, is_for_kind, stream_with, with_file}
use Rattle.il_machine.specs.Kinds.{is_input, ports_in}
use Rattle.il_machine.specs.Settings.{Settings, default_setting}
use Rattle.il_machine.specs.World.{Component, Stream, World, fresh_stream, is_stream_of, number_of}
use Rattle.play_build_laws.specs.Assembly.{Assembly, IsLawful, component_at}
use Rattle.play_build_laws.specs.Stages.{AreBuilt, IsBuilt, Progress, file_by, setting_by, setting_of, state_by, stream_by}
use Rattle.play_build_laws.proofs.Accepted.{file_accepted}
use Rattle.play_build_laws.proofs.Calm.{built_closes}
use Rattle.play_build_laws.proofs.Changing.{replaced}
use Rattle.play_build_laws.proofs.Places.{mapped_at, mapped_set, resolved}
use Rattle.play_build_laws.proofs.Standing.{answered, held_at, unstarted}

some_port : (kind : Kind) (file : Offered) → is_for_kind kind file ≡ true → 0 < ports_in kind
some_port Source file h = omega arith
some_port Late file h = omega arith
some_port Sink file h = omega arith
some_port Decoder file h = omega arith
some_port Alaw file h = omega arith
some_port Mulaw file h = omega arith
some_port Gain file h = omega arith
some_port (Mixer n) file h = omega arith
some_port (Splitter n) file h = omega arith

pub stream_component : (o : Option Offered) (c : ℕ) → (stream_by o c).component ≡ c
stream_component None c = refl
stream_component (Some file) c = refl

-- the file has come
pub record IsFiledOnce (s : Assembly) (p q : Progress) (c : ℕ) : Type 0 where
  pub factored : (d j : ℕ) → q.factored d j ≡ true → p.factored d j ≡ true
  pub made : q.made ≡ p.made
  pub set : (side : Bool) (l : ℕ) → p.set side l ≡ true
  pub same_set : (side : Bool) (l : ℕ) → q.set side l ≡ p.set side l
  pub same_joined : (side : Bool) (l : ℕ) → q.joined side l ≡ p.joined side l
  pub free : p.filed c ≡ false
  pub filed : q.filed c ≡ true
  pub others : (d : ℕ) → d ≢ c → q.filed d ≡ p.filed d

-- what becomes of a stream
abbrev streamed : ℕ → Offered → Stream → Stream
streamed number file st = if is_stream_of number st then stream_with file st else st

stream_changed : (s : Assembly) (p q : Progress) (c : ℕ) → IsFiledOnce s p q c → (file : Offered) → s.file c ≡ Some file → (number : ℕ) → number ≡ c → (d : ℕ)
    → streamed number file (stream_by (file_by s (p.filed d) d) d) ≡ stream_by (file_by s (q.filed d) d) d
stream_changed s p q c O file f number n d = elim (cases_eq d c) [
  | inl e ↦
      let was : stream_by (file_by s (p.filed d) d) d ≡ fresh_stream c = (λ i. stream_by (file_by s (p.filed (e i)) (e i)) (e i)) ∙ ap (λ (t : Bool). stream_by (file_by s t c) c) O.free in
      let now : stream_by (file_by s (q.filed d) d) d ≡ stream_with file (fresh_stream c) = (λ i. stream_by (file_by s (q.filed (e i)) (e i)) (e i)) ∙ (ap (λ (t : Bool). stream_by (file_by s t c) c) O.filed ∙ ap (λ (o : Option Offered). stream_by o c) f) in
      let own : is_stream_of number (fresh_stream c) ≡ true = eq-eqb c number (sym n) in
      ap (streamed number file) was ∙ (ap (λ (t : Bool). if t then stream_with file (fresh_stream c) else fresh_stream c) own ∙ sym now)
  | inr k ↦
      let st : Stream = stream_by (file_by s (p.filed d) d) d in
      let other : is_stream_of number st ≡ false = ne_eqb st.component number (λ z. k (sym (stream_component (file_by s (p.filed d) d) d) ∙ (z ∙ n))) in
      ap (λ (t : Bool). if t then stream_with file st else st) other ∙ ap (λ (t : Bool). stream_by (file_by s t d) d) (sym (O.others d k))
]

pub file_set : (s : Assembly) (L : IsLawful s) (p q : Progress) (handles : List Handle) (c : ℕ) (b : c < s.components) (O : IsFiledOnce s p q c) (w v : World) (h : Handle) (file : Offered) (result : Result (Unit {0}) OmxError)
    → IsBuilt s p handles w → slice_get handles c ≡ Some h → s.file c ≡ Some file → Attach w h file result v → (result ≡ Ok tt) × IsBuilt s q handles v
file_set s L p q handles c b O w v h file result W e f r =
    let H = held_at s p handles w W c h e in
    let a : Component = H.component in
    let B = (W.components).each c a H.there in
    let U = unstarted s p c a B in
    let F = L.files c file b f in
    let kind : a.settings.kind ≡ s.kind c = ap (λ (y : Settings). y.kind) B.settings in
    let none : a.file ≡ None = B.file ∙ ap (λ (t : Bool). option_map attached (file_by s t c)) O.free in
    let Z = L.each c 0 b (some_port (s.kind c) file F.kind) in
    let place : component_at s Z.side Z.link ≡ c = ap (λ k. k.component) Z.end in
    let zero_port : (s.end Z.side Z.link).port ≡ 0 = ap (λ k. k.port) Z.end in
    let E = (W.components).ends Z.side Z.link a Z.below (ap (slice_get w.components) place ∙ H.there) in
    let first : slice_get a.settings.ports 0 ≡ Some (setting_of s Z.side Z.link) = ap (slice_get a.settings.ports) (sym zero_port) ∙ (E.setting ∙ ap (λ (t : Bool). Some (setting_by s t Z.side Z.link)) (O.set Z.side Z.link)) in
    let format : file_port_format a ≡ s.format Z.link = ap (λ (y : PortSetting). y.definition.format) (get_or_from_slice_get a.settings.ports 0 _ (default_setting a.settings.kind (is_input a.settings.kind 0)) first) in
    let bad : is_bad_file a.settings.kind (file_port_format a) file ≡ false = (λ i. is_bad_file (kind i) (format i) file) ∙ F.format Z.side Z.link Z.below Z.end in
    let accepted : attach_refusal a file ≡ None = file_accepted a file U none (ap (λ (z : Kind). is_for_kind z file) kind ∙ F.kind) bad in
    let R = answered (attach_refusal a file) result w v (λ _. ClosesTo (with_file c a file w) v) accepted
    (resolved plain w h result v (λ j y. Answers (attach_refusal y file) result w v (λ _. ClosesTo (with_file j y file w) v)) c a H.names H.there r) in
    let a' : Component = record a { file = Some (attached file) } in
    let own : file_by s (q.filed c) c ≡ Some file = ap (λ (t : Bool). file_by s t c) O.filed ∙ f in
    let A : AreBuilt s q (set w.components c a') = replaced s p q w.components c a a' W.components H.there
    (record {
      number = B.number;
      fresh_else = ap (λ (y : Component). record y { file = Some (attached file) }) B.fresh_else;
      settings = B.settings;
      gain = B.gain;
      factors = λ j x d t. B.factors j x d (O.factored c j t);
      file = sym (ap (λ (y : Option Offered). option_map attached y) own);
      calm = B.calm;
    })
    (λ side l d x.
    let Y = (W.components).ends side l a d (ap (slice_get w.components) x ∙ H.there) in
    record { setting = Y.setting ∙ ap (λ (t : Bool). Some (setting_by s t side l)) (sym (O.same_set side l)); state = Y.state ∙ ap (λ (t : Bool). Some (state_by s t side l)) (sym (O.same_joined side l)) })
    (record { factored = λ d j n t. O.factored d j t; filed = O.others; set = λ side l d n. O.same_set side l; joined = λ side l d n. O.same_joined side l })
    in
    let effect : World = with_file c a file w in
    let change : Stream → Stream = streamed (number_of a) file in
    let Q : IsBuilt s q handles effect = record {
      units = W.units;
      handles_are = mapped_set (λ (y : Component). y.handle) w.components c a a' H.there refl ∙ W.handles_are;
      many = length-set w.components c a' ∙ (W.many ∙ sym O.made);
      numbered = W.numbered ∙ sym O.made;
      components = A;
      streams = λ d l.
          let was = W.streams d (subst (λ (n : ℕ). d < n) O.made l) in
          let now : slice_get (map change w.streams) d ≡ Some (change (stream_by (file_by s (p.filed d) d) d)) = mapped_at change w.streams d ∙ ap (λ (o : Option Stream). option_map change o) was in
          now ∙ ap (λ (st : Stream). Some st) (stream_changed s p q c O file f (number_of a) B.number d);
      headers = W.headers;
      unmade = W.unmade;
      unwaited = W.unwaited;
      given = W.given;
    } in
    (R.1, subst (IsBuilt s q handles) (sym (built_closes s q effect v A R.2)) Q)
