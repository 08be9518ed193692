-- From stage to stage.
use Rattle.std.proofs.Common.{◌≡◌, ◌≢◌, ◌⊎◌, inl, inr, ℕ, ◌+◌, ◌<◌, Bool, true, false, not, ◌&&◌, ◌||◌, nat_eq, nat_lt, List, [], ◌∷◌, ◌++◌, length, slice_get, Some, None, Option, option_map, Result, Ok, Err, refl, sym, ◌∙◌, ap, subst, eq-eqb, ne_eqb, arith}
use Rattle.std.proofs.lemmas.Bool.{cases_eq, lt-ltb, le-ltb}
use Rattle.std.proofs.lemmas.Option.{slice_get_within}
use Rattle.omx_types.specs.declared.handle.Handle.{Handle}
use Rattle.omx_types.specs.declared.error.OmxError.{OmxError}
use Rattle.omx_types.specs.declared.error.CallError.{CallError}
use Rattle.omx_types.specs.declared.error.CallError.TheVariants.{OutOfMemory}
use Rattle.omx_types.specs.declared.param.Supplier.{Supplier}
use Rattle.omx_types.specs.declared.param.Supplier.TheVariants.{Input}
use Rattle.il_machine.specs.Acts as acts
use Rattle.il_machine.specs.Components.{GetHandle}
use Rattle.il_machine.specs.Due.{IsClosed}
use Rattle.il_machine.specs.Files.{Attach, Offered, attached}
use Rattle.il_machine.specs.Parameters.{SetConfig, SetParameter}
use Rattle.il_machine.specs.Sound.{Sound}
use Rattle.il_machine.specs.Tunnels.{SetupTunnel}
use Rattle.il_machine.specs.World.{World, no_world, place_of}
use Rattle.machine_laws.proofs.Finding.{either}
use Rattle.machine_laws.proofs.Steps.{sound_none, sound_step}
use Rattle.play_build_laws.specs.Assembly.{Assembly, IsLawful, component_at}
use Rattle.play_build_laws.specs.Stages.{Stage, Making, Factoring, Setting, Filing, Joining, Progress, IsBuilt, IsStage, factor_key, factor_value, file_by, id_at, name_of, port_key, port_value, progress_of, setting_by, state_by, stream_by}
use Rattle.play_build_laws.proofs.Calm.{built_closed}
use Rattle.play_build_laws.proofs.Factoring.{factor_set}
use Rattle.play_build_laws.proofs.Filing.{file_set}
use Rattle.play_build_laws.proofs.Joining.{tunnel_set}
use Rattle.play_build_laws.proofs.Making.{component_made}
use Rattle.play_build_laws.proofs.Setting.{end_set}
use Rattle.play_build_laws.proofs.Standing.{held_at, next_else}

-- ---- the beginning

pub begins : (s : Assembly) (key : ℕ) → IsStage s (Making 0) [] (no_world key s.units)
begins s key = record {
  sound = sound_none key s.units;
  built = record {
    units = refl;
    handles_are = refl;
    many = refl;
    numbered = refl;
    components = record { each = λ c a e. absurd cc; ends = λ side l a b e. absurd cc };
    streams = λ c l. absurd (omega arith);
    headers = refl;
    unmade = refl;
    unwaited = refl;
    given = refl;
  };
}

pub names : (s : Assembly) (stage : Stage) (handles : List Handle) (w : World) (c : ℕ) (h : Handle) → IsStage s stage handles w → slice_get handles c ≡ Some h → place_of h w.components ≡ Some c
names s stage handles w c h W e = (held_at s (progress_of s stage) handles w W.built c h e).names

pub at_rest : (s : Assembly) (stage : Stage) (handles : List Handle) (w : World) → IsStage s stage handles w → IsClosed w
at_rest s stage handles w W = built_closed s (progress_of s stage) w (W.built).components

-- ---- the acts

module _ (s : Assembly) (L : IsLawful s) (handles : List Handle) (w v : World) where
  pub makes : (made : ℕ) (result : Result Handle CallError) → IsStage s (Making made) handles w → made < s.components → GetHandle w (name_of (s.kind made)) result v
      → ((h : Handle) × (result ≡ Ok h) × IsStage s (Making (made + 1)) (handles ++ h ∷ []) v) ⊎ ((result ≡ Err OutOfMemory) × (v ≡ w))
  makes made result W b r =
      let sound : Sound v = sound_step w v (acts.GetHandle (name_of (s.kind made))) (acts.Got result) tt r W.sound in
      elim (component_made s L (progress_of s (Making made)) (progress_of s (Making (made + 1))) handles b
      (record { made = refl; factored = λ c j. refl; filed = λ c. refl; unfiled = λ c. refl; set = λ side l. refl; unset = λ side l. refl; joined = λ side l. refl; unjoined = λ side l. refl }) w v result W.sound W.built r) [
        | inl x ↦ inl (x.0, x.1, record { sound = sound; built = x.2 })
        | inr x ↦ inr x
      ]

  pub factors : (c i factor : ℕ) (h : Handle) (result : Result (Unit {0}) OmxError) → IsStage s (Factoring c i) handles w → c < s.components → slice_get handles c ≡ Some h → slice_get (s.factors c) i ≡ Some factor
      → SetConfig w h (factor_key (s.kind c) i) (factor_value (s.kind c) factor) result v → (result ≡ Ok tt) × IsStage s (Factoring c (i + 1)) handles v
  factors c i factor h result W b e f r =
      let sound : Sound v = sound_step w v (acts.SetConfig h (factor_key (s.kind c) i) (factor_value (s.kind c) factor)) (acts.Plain result) tt r W.sound in
      let R = factor_set s L (progress_of s (Factoring c i)) (progress_of s (Factoring c (i + 1))) handles c i factor b
      (record { others = other; here = here; filed = λ d. refl; made = refl; set = λ side l. refl; joined = λ side l. refl }) w v h result W.sound W.built e f r in
      (R.0, record { sound = sound; built = R.1 })
    where
      other : (d j : ℕ) → d ≢ c → (nat_lt d c || (nat_eq d c && nat_lt j (i + 1))) ≡ true → (nat_lt d c || (nat_eq d c && nat_lt j i)) ≡ true
      other d j n t = let z : nat_eq d c ≡ false = ne_eqb d c n in let u : (nat_lt d c || (false && nat_lt j (i + 1))) ≡ true = rw z at t in rw z u

      here : (j : ℕ) → (nat_lt c c || (nat_eq c c && nat_lt j (i + 1))) ≡ true → (j ≡ i) ⊎ ((nat_lt c c || (nat_eq c c && nat_lt j i)) ≡ true)
      here j t =
          let x : nat_lt c c ≡ false = le-ltb c c (omega arith) in
          let y : nat_eq c c ≡ true = eq-eqb c c refl in
          let u : nat_lt j (i + 1) ≡ true = rw (x, y) at t in
          elim (cases_eq j i) [ inl e ↦ inl e | inr n ↦ inr (rw (x, y) (sym (next_else j i n) ∙ u)) ]

  pub sets_output : (l : ℕ) (h : Handle) (result : Result (Unit {0}) OmxError) → IsStage s (Setting l false) handles w → l < s.links → slice_get handles (component_at s false l) ≡ Some h
      → SetParameter w h (port_key (s.end false l).port) (port_value s false l) result v → (result ≡ Ok tt) × IsStage s (Setting l true) handles v
  sets_output l h result W b e r =
      let sound : Sound v = sound_step w v (acts.SetParameter h (port_key (s.end false l).port) (port_value s false l)) (acts.Plain result) tt r W.sound in
      let R = end_set s L (progress_of s (Setting l false)) (progress_of s (Setting l true)) handles false l b
      (record { one = record { factored = λ c j t. t; filed = λ c. refl; set = only; joined = λ other k d. inr refl }; made = refl; free = refl; unjoined = refl; still_unjoined = refl; set = set_now }) w v h result W.built e r in
      (R.0, record { sound = sound; built = R.1 })
    where
      set_now : (nat_lt l l || (nat_eq l l && true && true)) ≡ true
      set_now = let x : nat_lt l l ≡ false = le-ltb l l (omega arith) in let y : nat_eq l l ≡ true = eq-eqb l l refl in rw (x, y) refl

      only : (other : Bool) (k : ℕ) → k < s.links → ((other ≡ false) × (k ≡ l)) ⊎ ((nat_lt k l || (nat_eq k l && true && not other)) ≡ (nat_lt k l || (nat_eq k l && false && not other)))
      only true k d = inr (either (nat_eq k l) (λ t. rw t refl) (λ t. rw t refl))
      only false k d = elim (cases_eq k l) [ inl e ↦ inl (refl, e) | inr n ↦ inr (let z : nat_eq k l ≡ false = ne_eqb k l n in rw z refl) ]

  pub sets_input : (l : ℕ) (h : Handle) (result : Result (Unit {0}) OmxError) → IsStage s (Setting l true) handles w → l < s.links → slice_get handles (component_at s true l) ≡ Some h
      → SetParameter w h (port_key (s.end true l).port) (port_value s true l) result v → (result ≡ Ok tt) × IsStage s (Setting (l + 1) false) handles v
  sets_input l h result W b e r =
      let sound : Sound v = sound_step w v (acts.SetParameter h (port_key (s.end true l).port) (port_value s true l)) (acts.Plain result) tt r W.sound in
      let R = end_set s L (progress_of s (Setting l true)) (progress_of s (Setting (l + 1) false)) handles true l b
      (record { one = record { factored = λ c j t. t; filed = λ c. refl; set = only; joined = λ other k d. inr refl }; made = refl; free = refl; unjoined = refl; still_unjoined = refl; set = set_now }) w v h result W.built e r in
      (R.0, record { sound = sound; built = R.1 })
    where
      set_now : (nat_lt l (l + 1) || (nat_eq l (l + 1) && false && false)) ≡ true
      set_now = let x : nat_lt l (l + 1) ≡ true = lt-ltb l (l + 1) (omega arith) in rw x refl

      none_more : (b : Bool) (t : Bool) → (b && false && t) ≡ false
      none_more true t = refl
      none_more false t = refl

      only : (other : Bool) (k : ℕ) → k < s.links → ((other ≡ true) × (k ≡ l)) ⊎ ((nat_lt k (l + 1) || (nat_eq k (l + 1) && false && not other)) ≡ (nat_lt k l || (nat_eq k l && true && not other)))
      only true k d = elim (cases_eq k l) [
        | inl e ↦ inl (refl, e)
        | inr n ↦ inr (let x : nat_eq k l ≡ false = ne_eqb k l n in rw (none_more (nat_eq k (l + 1)) false, next_else k l n, x) refl)
      ]
      only false k d = elim (cases_eq k l) [
        | inl e ↦
            let x : nat_lt k (l + 1) ≡ true = lt-ltb k (l + 1) (omega arith) in
            let y : nat_eq k l ≡ true = eq-eqb k l e in
            let z : nat_lt k l ≡ false = le-ltb k l (omega arith) in
            inr (rw (x, y, z) refl)
        | inr n ↦ inr (let x : nat_eq k l ≡ false = ne_eqb k l n in rw (none_more (nat_eq k (l + 1)) true, next_else k l n, x) refl)
      ]

  pub files : (c : ℕ) (h : Handle) (file : Offered) (result : Result (Unit {0}) OmxError) → IsStage s (Filing c) handles w → c < s.components → slice_get handles c ≡ Some h → s.file c ≡ Some file
      → Attach w h file result v → (result ≡ Ok tt) × IsStage s (Filing (c + 1)) handles v
  files c h file result W b e f r =
      let sound : Sound v = sound_step w v (acts.Attach h file) (acts.Plain result) tt r W.sound in
      let R = file_set s L (progress_of s (Filing c)) (progress_of s (Filing (c + 1))) handles c b
      (record { factored = λ d j t. t; made = refl; set = λ side l. refl; same_set = λ side l. refl; same_joined = λ side l. refl; free = le-ltb c c (omega arith); filed = lt-ltb c (c + 1) (omega arith); others = λ d n. next_else d c n }) w v h file result W.built e f r in
      (R.0, record { sound = sound; built = R.1 })

  pub joins : (l : ℕ) (h g : Handle) (result : Result Supplier OmxError) → IsStage s (Joining l) handles w → l < s.links → slice_get handles (component_at s false l) ≡ Some h → slice_get handles (component_at s true l) ≡ Some g
      → SetupTunnel w (id_at s false l h) (id_at s true l g) result v → (result ≡ Ok Input) × IsStage s (Joining (l + 1)) handles v
  joins l h g result W b e f r =
      let sound : Sound v = sound_step w v (acts.SetupTunnel (id_at s false l h) (id_at s true l g)) (acts.Joined result) tt r W.sound in
      let R = tunnel_set s L (progress_of s (Joining l)) (progress_of s (Joining (l + 1))) handles l b
      (record { factored = λ c j t. t; filed = λ c. refl; made = refl; set = λ side. refl; same_set = λ side k. refl; unjoined = λ side. le-ltb l l (omega arith); joined = λ side. lt-ltb l (l + 1) (omega arith); others = λ side k n. next_else k l n }) w v h g result W.built e f r in
      (R.0, record { sound = sound; built = R.1 })

-- ---- on to the next stage, without an act

-- nothing more is done, as far as the assembly goes
record IsRetold (s : Assembly) (p q : Progress) : Type 0 where
  made : q.made ≡ p.made
  factored : (c j factor : ℕ) → c < p.made → slice_get (s.factors c) j ≡ Some factor → q.factored c j ≡ true → p.factored c j ≡ true
  filed : (c : ℕ) → c < p.made → file_by s (q.filed c) c ≡ file_by s (p.filed c) c
  set : (side : Bool) (l : ℕ) → l < s.links → q.set side l ≡ p.set side l
  joined : (side : Bool) (l : ℕ) → l < s.links → q.joined side l ≡ p.joined side l

retold : (s : Assembly) (p q : Progress) (handles : List Handle) (w : World) → IsRetold s p q → IsBuilt s p handles w → IsBuilt s q handles w
retold s p q handles w R W = record {
  units = W.units;
  handles_are = W.handles_are;
  many = W.many ∙ sym R.made;
  numbered = W.numbered ∙ sym R.made;
  components = record {
    each = λ c a e.
        let B = (W.components).each c a e in
        let l = slice_get_within w.components c a e in
        let m = W.many in
        record {
          number = B.number;
          fresh_else = B.fresh_else;
          settings = B.settings;
          gain = B.gain;
          factors = λ j x d t. B.factors j x d (R.factored c j x (omega arith) d t);
          file = B.file ∙ ap (λ (o : Option Offered). option_map attached o) (sym (R.filed c (omega arith)));
          calm = B.calm;
        };
    ends = λ side l a b e.
        let E = (W.components).ends side l a b e in
        record { setting = E.setting ∙ ap (λ (t : Bool). Some (setting_by s t side l)) (sym (R.set side l b)); state = E.state ∙ ap (λ (t : Bool). Some (state_by s t side l)) (sym (R.joined side l b)) };
  };
  streams = λ c l.
      let b : c < p.made = subst (λ (n : ℕ). c < n) R.made l in
      W.streams c b ∙ ap (λ (o : Option Offered). Some (stream_by o c)) (sym (R.filed c b));
  headers = W.headers;
  unmade = W.unmade;
  unwaited = W.unwaited;
  given = W.given;
}

module _ (s : Assembly) (handles : List Handle) (w : World) where
  goes_on : (one other : Stage) → IsRetold s (progress_of s one) (progress_of s other) → IsStage s one handles w → IsStage s other handles w
  goes_on one other R W = record { sound = W.sound; built = retold s (progress_of s one) (progress_of s other) handles w R W.built }

  none_below : (n : ℕ) → nat_lt n 0 ≡ false
  none_below n = le-ltb n 0 (omega arith)

  pub all_made : IsStage s (Making s.components) handles w → IsStage s (Factoring 0 0) handles w
  all_made = goes_on (Making s.components) (Factoring 0 0) (record {
    made = refl;
    factored = λ c j x b d t. let z : (nat_lt c 0 || (nat_eq c 0 && nat_lt j 0)) ≡ false = (let u : nat_lt c 0 ≡ false = none_below c in let y : nat_lt j 0 ≡ false = none_below j in rw (u, y) (and_false (nat_eq c 0))) in sym z ∙ t;
    filed = λ c b. refl;
    set = λ side l b. refl;
    joined = λ side l b. refl;
  })
    where
      and_false : (b : Bool) → (b && false) ≡ false
      and_false true = refl
      and_false false = refl

  pub one_factored : (c : ℕ) → IsStage s (Factoring c (length (s.factors c))) handles w → IsStage s (Factoring (c + 1) 0) handles w
  one_factored c = goes_on (Factoring c (length (s.factors c))) (Factoring (c + 1) 0) (record { made = refl; factored = factored; filed = λ d b. refl; set = λ side l b. refl; joined = λ side l b. refl })
    where
      none_more : (b : Bool) (j : ℕ) → (b && nat_lt j 0) ≡ false
      none_more true j = none_below j
      none_more false j = refl

      or_false : (b : Bool) → (b || false) ≡ b
      or_false true = refl
      or_false false = refl

      factored : (d j x : ℕ) → d < s.components → slice_get (s.factors d) j ≡ Some x → (nat_lt d (c + 1) || (nat_eq d (c + 1) && nat_lt j 0)) ≡ true → (nat_lt d c || (nat_eq d c && nat_lt j (length (s.factors c)))) ≡ true
      factored d j x b e t =
          let u : nat_lt d (c + 1) ≡ true = sym (or_false (nat_lt d (c + 1))) ∙ (ap (λ (y : Bool). nat_lt d (c + 1) || y) (sym (none_more (nat_eq d (c + 1)) j)) ∙ t) in
          elim (cases_eq d c) [
            | inl q ↦
                let l = slice_get_within (s.factors d) j x e in
                let y : nat_eq d c ≡ true = eq-eqb d c q in
                let z : nat_lt j (length (s.factors c)) ≡ true = ap (λ (k : ℕ). nat_lt j (length (s.factors k))) (sym q) ∙ lt-ltb j (length (s.factors d)) l in
                let v : nat_lt d c ≡ false = le-ltb d c (omega arith) in
                rw (v, y, z) refl
            | inr n ↦ let v : nat_lt d c ≡ true = sym (next_else d c n) ∙ u in rw v refl
          ]

  pub all_factored : IsStage s (Factoring s.components 0) handles w → IsStage s (Setting 0 false) handles w
  all_factored = goes_on (Factoring s.components 0) (Setting 0 false) (record {
    made = refl;
    factored = λ c j x b d t. let u : nat_lt c s.components ≡ true = lt-ltb c s.components b in rw u refl;
    filed = λ c b. refl;
    set = λ side l b. let u : nat_lt l 0 ≡ false = none_below l in rw u (none_set (nat_eq l 0) (not side));
    joined = λ side l b. refl;
  })
    where
      none_set : (b t : Bool) → (b && false && t) ≡ false
      none_set true t = refl
      none_set false t = refl

  pub all_set : IsStage s (Setting s.links false) handles w → IsStage s (Filing 0) handles w
  all_set = goes_on (Setting s.links false) (Filing 0) (record {
    made = refl;
    factored = λ c j x b d t. refl;
    filed = λ c b. ap (λ (t : Bool). file_by s t c) (none_below c);
    set = λ side l b. let u : nat_lt l s.links ≡ true = lt-ltb l s.links b in rw u refl;
    joined = λ side l b. refl;
  })

  -- one that has no file
  pub none_filed : (c : ℕ) → s.file c ≡ None → IsStage s (Filing c) handles w → IsStage s (Filing (c + 1)) handles w
  none_filed c e = goes_on (Filing c) (Filing (c + 1)) (record { made = refl; factored = λ d j x b t u. refl; filed = λ d b. filed d; set = λ side l b. refl; joined = λ side l b. refl })
    where
      filed : (d : ℕ) → file_by s (nat_lt d (c + 1)) d ≡ file_by s (nat_lt d c) d
      filed d = elim (cases_eq d c) [
        | inl q ↦
            let u : nat_lt d (c + 1) ≡ true = lt-ltb d (c + 1) (omega arith) in
            let v : nat_lt d c ≡ false = le-ltb d c (omega arith) in
            ap (λ (t : Bool). file_by s t d) u ∙ (ap s.file q ∙ (e ∙ ap (λ (t : Bool). file_by s t d) (sym v)))
        | inr n ↦ ap (λ (t : Bool). file_by s t d) (next_else d c n)
      ]

  pub all_filed : IsStage s (Filing s.components) handles w → IsStage s (Joining 0) handles w
  all_filed = goes_on (Filing s.components) (Joining 0) (record {
    made = refl;
    factored = λ c j x b d t. refl;
    filed = λ c b. ap (λ (t : Bool). file_by s t c) (sym (lt-ltb c s.components b));
    set = λ side l b. refl;
    joined = λ side l b. none_below l;
  })
