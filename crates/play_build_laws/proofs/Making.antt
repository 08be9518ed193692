-- A component is made.
use Rattle.std.proofs.Common.{◌≡◌, ◌⊎◌, inl, inr, ℕ, zero, suc, ◌+◌, ◌<◌, ◌≤◌, Bool, true, false, nat_eq, nat_le, List, [], ◌∷◌, ◌++◌, length, length-append, replicate, slice_get, Some, None, Option, is_none, option_map, MatchOption, Result, Ok, Err, All, refl, sym, ◌∙◌, ap, subst, ltb-true, ne_eqb, arith}
use Rattle.std.proofs.lemmas.Bool.{cases_eq, ltb-false, lt-leb}
use Rattle.std.proofs.lemmas.List.{length-map}
use Rattle.omx_types.specs.declared.handle.Handle.{Handle}
use Rattle.omx_types.specs.declared.error.OmxError.{OmxError}
use Rattle.omx_types.specs.declared.error.CallError.{CallError}
use Rattle.omx_types.specs.declared.error.CallError.TheVariants.{OutOfMemory}
use Rattle.omx_types.specs.declared.kind.Kind.{Kind}
use Rattle.omx_types.specs.declared.kind.Kind.TheVariants.{Source, Late, Decoder, Alaw, Mulaw, Gain, Mixer, Splitter, Sink}
use Rattle.il_machine.specs.Answers.{AnswersOrMemory}
use Rattle.il_machine.specs.Components.{GetHandle, get_handle_refusal, is_bad_name, is_full, is_vacant, with_new_component}
use Rattle.il_machine.specs.Due.{ClosesTo}
use Rattle.il_machine.specs.Files.{attached}
use Rattle.il_machine.specs.Kinds.{inputs_of, outputs_of, is_input, kind_of, ports_in}
use Rattle.il_machine.specs.Look.{look}
use Rattle.il_machine.specs.Ports.{IsCalmPort}
use Rattle.il_machine.specs.Settings.{IsSized, default_setting, default_settings}
use Rattle.il_machine.specs.Sound.{Sound}
use Rattle.il_machine.specs.World.{Component, Stream, World, fresh, fresh_port, fresh_stream, number_of}
use Rattle.machine_laws.proofs.Every.{at_replicas, from_places, push_last_there, push_there}
use Rattle.machine_laws.proofs.Keys.{at_there}
use Rattle.play_build_laws.specs.Assembly.{Assembly, IsLawful, component_at, kind_at}
use Rattle.play_build_laws.specs.Stages.{AreBuilt, HasEnd, IsBuilt, IsBuiltAs, Progress, file_by, name_of, setting_by, state_by, stream_by}
use Rattle.play_build_laws.proofs.Calm.{built_closes, skips}
use Rattle.play_build_laws.proofs.Places.{first_replica, mapped_push, pushed_at, replica_there, second_replica}

-- ---- names

record IsNamed (kind : Kind) : Type 0 where
  good : is_bad_name (name_of kind) ≡ false
  kind_is : kind_of (name_of kind) ≡ Some kind

mixer_named : (n : ℕ) → 2 ≤ n → n ≤ 8 → IsNamed (Mixer n)
mixer_named zero l h = absurd (omega arith)
mixer_named (suc zero) l h = absurd (omega arith)
mixer_named (suc (suc zero)) l h = record { good = refl; kind_is = refl }
mixer_named (suc (suc (suc zero))) l h = record { good = refl; kind_is = refl }
mixer_named (suc (suc (suc (suc zero)))) l h = record { good = refl; kind_is = refl }
mixer_named (suc (suc (suc (suc (suc zero))))) l h = record { good = refl; kind_is = refl }
mixer_named (suc (suc (suc (suc (suc (suc zero)))))) l h = record { good = refl; kind_is = refl }
mixer_named (suc (suc (suc (suc (suc (suc (suc zero))))))) l h = record { good = refl; kind_is = refl }
mixer_named (suc (suc (suc (suc (suc (suc (suc (suc zero)))))))) l h = record { good = refl; kind_is = refl }
mixer_named (suc (suc (suc (suc (suc (suc (suc (suc (suc n))))))))) l h = absurd (omega arith)

splitter_named : (n : ℕ) → 2 ≤ n → n ≤ 8 → IsNamed (Splitter n)
splitter_named zero l h = absurd (omega arith)
splitter_named (suc zero) l h = absurd (omega arith)
splitter_named (suc (suc zero)) l h = record { good = refl; kind_is = refl }
splitter_named (suc (suc (suc zero))) l h = record { good = refl; kind_is = refl }
splitter_named (suc (suc (suc (suc zero)))) l h = record { good = refl; kind_is = refl }
splitter_named (suc (suc (suc (suc (suc zero))))) l h = record { good = refl; kind_is = refl }
splitter_named (suc (suc (suc (suc (suc (suc zero)))))) l h = record { good = refl; kind_is = refl }
splitter_named (suc (suc (suc (suc (suc (suc (suc zero))))))) l h = record { good = refl; kind_is = refl }
splitter_named (suc (suc (suc (suc (suc (suc (suc (suc zero)))))))) l h = record { good = refl; kind_is = refl }
splitter_named (suc (suc (suc (suc (suc (suc (suc (suc (suc n))))))))) l h = absurd (omega arith)

named_so : (kind : Kind) → IsSized kind → IsNamed kind
named_so Source S = record { good = refl; kind_is = refl }
named_so Late S = record { good = refl; kind_is = refl }
named_so Decoder S = record { good = refl; kind_is = refl }
named_so Alaw S = record { good = refl; kind_is = refl }
named_so Mulaw S = record { good = refl; kind_is = refl }
named_so Gain S = record { good = refl; kind_is = refl }
named_so (Mixer n) S = mixer_named n S.0 S.1
named_so (Splitter n) S = splitter_named n S.0 S.1
named_so Sink S = record { good = refl; kind_is = refl }

-- ---- a new component's ports

default_there : (kind : Kind) (port : ℕ) (side : Bool) → port < ports_in kind → is_input kind port ≡ side → slice_get (default_settings kind).ports port ≡ Some (default_setting kind side)
default_there kind port true l e = first_replica (inputs_of kind) port (default_setting kind true) (replicate (outputs_of kind) (default_setting kind false)) (ltb-true port (inputs_of kind) e)
default_there kind port false l e = second_replica (inputs_of kind) (outputs_of kind) port (default_setting kind true) (default_setting kind false) (ltb-false port (inputs_of kind) e) l

pub new_calm : (n : ℕ) → All IsCalmPort (replicate n fresh_port)
new_calm n = from_places IsCalmPort (replicate n fresh_port) (λ i x e. let r = at_replicas n i fresh_port x e in subst IsCalmPort (sym r.0) (record { steady = refl; quiet = refl; unmarked = refl }))

-- ---- the act

-- nothing else is done yet
pub record IsMadeOnce (s : Assembly) (p q : Progress) : Type 0 where
  pub made : q.made ≡ p.made + 1
  pub factored : (c j : ℕ) → q.factored c j ≡ false
  pub filed : (c : ℕ) → p.filed c ≡ false
  pub unfiled : (c : ℕ) → q.filed c ≡ false
  pub set : (side : Bool) (l : ℕ) → p.set side l ≡ false
  pub unset : (side : Bool) (l : ℕ) → q.set side l ≡ false
  pub joined : (side : Bool) (l : ℕ) → p.joined side l ≡ false
  pub unjoined : (side : Bool) (l : ℕ) → q.joined side l ≡ false

module _ (s : Assembly) (L : IsLawful s) (p q : Progress) (O : IsMadeOnce s p q) (h : Handle) where
  new_built : (c : ℕ) → h.generation ≡ c → IsBuiltAs s q c (fresh h (s.kind c))
  new_built c n = record {
    number = n;
    fresh_else = refl;
    settings = refl;
    gain = λ n. refl;
    factors = λ i x d t. let z : false ≡ true = sym (O.factored c i) ∙ t in absurd cc;
    file = sym (ap (λ (t : Bool). option_map attached (file_by s t c)) (O.unfiled c));
    calm = new_calm (ports_in (s.kind c));
  }

  new_end : (side : Bool) (l c : ℕ) → l < s.links → component_at s side l ≡ c → HasEnd s q side l (fresh h (s.kind c))
  new_end side l c b e =
      let E = L.ends side l b in
      let kind : kind_at s side l ≡ s.kind c = ap s.kind e in
      record {
        setting = default_there (s.kind c) (s.end side l).port side (subst (λ (k : Kind). (s.end side l).port < ports_in k) kind E.port) (ap (λ (k : Kind). is_input k (s.end side l).port) (sym kind) ∙ E.direction)
            ∙ (ap (λ (k : Kind). Some (default_setting k side)) (sym kind) ∙ ap (λ (t : Bool). Some (setting_by s t side l)) (sym (O.unset side l)));
        state = replica_there (ports_in (s.kind c)) (s.end side l).port fresh_port (subst (λ (k : Kind). (s.end side l).port < ports_in k) kind E.port) ∙ ap (λ (t : Bool). Some (state_by s t side l)) (sym (O.unjoined side l));
      }

  new_components : (cs : List Component) → AreBuilt s p cs → h.generation ≡ length cs → AreBuilt s q (cs ++ fresh h (s.kind (length cs)) ∷ [])
  new_components cs A n = record {
    each = λ c a e. elim (pushed_at cs c (fresh h (s.kind (length cs))) a e) [
      | inl f ↦
          let B = A.each c a f in
          record { number = B.number; fresh_else = B.fresh_else; settings = B.settings; gain = B.gain; factors = λ i x d t. let z : false ≡ true = sym (O.factored c i) ∙ t in absurd cc; file = B.file ∙ (ap (λ (t : Bool). option_map attached (file_by s t c)) (O.filed c ∙ sym (O.unfiled c))); calm = B.calm }
      | inr f ↦ subst (λ (d : ℕ). IsBuiltAs s q d a) (sym f.0) (subst (IsBuiltAs s q (length cs)) (sym f.1) (new_built (length cs) n))
    ];
    ends = λ side l a b e. elim (pushed_at cs (component_at s side l) (fresh h (s.kind (length cs))) a e) [
      | inl f ↦
          let E = A.ends side l a b f in
          record {
            setting = E.setting ∙ ap (λ (t : Bool). Some (setting_by s t side l)) (O.set side l ∙ sym (O.unset side l));
            state = E.state ∙ ap (λ (t : Bool). Some (state_by s t side l)) (O.joined side l ∙ sym (O.unjoined side l));
          }
      | inr f ↦ subst (HasEnd s q side l) (sym f.1) (new_end side l (length cs) b f.0)
    ];
  }

new_answer : (refusal : Option OmxError) (result : Result Handle CallError) (w v : World) (Accepted : Handle → Type 0) → refusal ≡ None → AnswersOrMemory refusal result w v Accepted
    → ((h : Handle) × (result ≡ Ok h) × Accepted h) ⊎ ((result ≡ Err OutOfMemory) × (v ≡ w))
new_answer (Some error) result w v Accepted e h = absurd cc
new_answer None (Ok x) w v Accepted e h = inl (x, refl, h)
new_answer None (Err error) w v Accepted e h = inr (ap (λ (y : CallError). Err y) h.0, h.1)

pub component_made : (s : Assembly) (L : IsLawful s) (p q : Progress) (handles : List Handle) (b : p.made < s.components) (O : IsMadeOnce s p q) (w v : World) (result : Result Handle CallError)
    → Sound w → IsBuilt s p handles w → GetHandle w (name_of (s.kind p.made)) result v
    → ((h : Handle) × (result ≡ Ok h) × IsBuilt s q (handles ++ h ∷ []) v) ⊎ ((result ≡ Err OutOfMemory) × (v ≡ w))
component_made s L p q handles b O w v result S W r =
    let kind : Kind = s.kind p.made in
    let N = named_so kind (L.sized p.made b) in
    let few = L.few in
    let m = W.many in
    let k = W.numbered in
    let room : is_full (look w) ≡ false =
    let x : nat_le 32 (length w.components) ≡ false = lt-leb 32 (length w.components) (omega arith) in
    let y : nat_eq w.numbered 18446744073709551615 ≡ false = ne_eqb w.numbered 18446744073709551615 (λ z. omega arith) in
    rw (x, y) refl
    in
    let accepted : get_handle_refusal (look w) (name_of kind) ≡ None = skips _ _ _ N.good (skips _ _ _ (ap (λ (o : Option Kind). is_none o) N.kind_is) (skips _ _ _ room refl)) in
    let R = new_answer (get_handle_refusal (look w) (name_of kind)) result w v (λ h.
    (h.generation ≡ w.numbered) × (is_vacant h.slot w.components ≡ true) × MatchOption (kind_of (name_of kind)) ⊥ (λ y. ClosesTo (with_new_component h y w) v)) accepted r in
    elim R [
      | inr x ↦ inr x
      | inl x ↦
          let h : Handle = x.0 in
          let closes : ClosesTo (with_new_component h kind w) v = at_there (kind_of (name_of kind)) (λ y. ClosesTo (with_new_component h y w) v) kind N.kind_is x.2.2 in
          let effect : World = with_new_component h kind w in
          let place : p.made ≡ length w.components = sym m in
          let A : AreBuilt s q effect.components =
          subst (λ (n : ℕ). AreBuilt s q (w.components ++ fresh h (s.kind n) ∷ [])) (sym place) (new_components s L p q O h w.components W.components (x.2.0 ∙ (k ∙ place)))
          in
          let streams : length w.streams ≡ p.made = sym (length-map w.streams (λ (y : Stream). y.component)) ∙ (ap length S.streams ∙ (length-map w.components number_of ∙ m)) in
          let Q : IsBuilt s q (handles ++ h ∷ []) effect = record {
            units = W.units;
            handles_are = mapped_push (λ (y : Component). y.handle) w.components (fresh h kind) ∙ ap (λ (hs : List Handle). hs ++ h ∷ []) W.handles_are;
            many = let a = length-append w.components (fresh h kind ∷ []) in let o = O.made in omega arith;
            numbered = let o = O.made in omega arith;
            components = A;
            streams = λ c l. elim (cases_eq c p.made) [
              | inl e ↦
                  let last : slice_get (w.streams ++ fresh_stream w.numbered ∷ []) c ≡ Some (fresh_stream w.numbered) = ap (slice_get (w.streams ++ fresh_stream w.numbered ∷ [])) (e ∙ sym streams) ∙ push_last_there w.streams (fresh_stream w.numbered) in
                  last ∙ (ap (λ (n : ℕ). Some (fresh_stream n)) (k ∙ sym e) ∙ ap (λ (t : Bool). Some (stream_by (file_by s t c) c)) (sym (O.unfiled c)))
              | inr n ↦
                  let o = O.made in
                  push_there w.streams c (fresh_stream w.numbered) _ (W.streams c (omega arith)) ∙ ap (λ (t : Bool). Some (stream_by (file_by s t c) c)) (O.filed c ∙ sym (O.unfiled c))
            ];
            headers = W.headers;
            unmade = W.unmade;
            unwaited = W.unwaited;
            given = W.given;
          } in
          inl (h, x.1, subst (IsBuilt s q (handles ++ h ∷ [])) (sym (built_closes s q effect v A closes)) Q)
    ]
