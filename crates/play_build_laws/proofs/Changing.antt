-- One component of an assembly changes: the others and their ends stay.
use Rattle.std.proofs.Common.{◌≡◌, ◌≢◌, ◌⊎◌, inl, inr, ℕ, ◌<◌, Bool, true, List, set, slice_get, Some, option_map, sym, ◌∙◌, ap, subst}
use Rattle.std.proofs.lemmas.Bool.{cases_eq}
use Rattle.il_machine.specs.declared.port.PortSetting.{PortSetting}
use Rattle.il_machine.specs.declared.port.PortState.{PortState}
use Rattle.il_machine.specs.Files.{attached}
use Rattle.il_machine.specs.Ports.{IsCalmPort}
use Rattle.il_machine.specs.Settings.{Settings}
use Rattle.il_machine.specs.World.{Component}
use Rattle.machine_laws.proofs.Every.{at_set, set_there, set_else}
use Rattle.play_build_laws.specs.Assembly.{Assembly, IsLawful, component_at}
use Rattle.play_build_laws.specs.Stages.{AreBuilt, HasEnd, IsBuiltAs, Progress, setting_by, state_by, file_by}
use Rattle.play_build_laws.proofs.Places.{all_set}

-- no other component has come further
pub record IsElse (s : Assembly) (p q : Progress) (i : ℕ) : Type 0 where
  pub factored : (c j : ℕ) → c ≢ i → q.factored c j ≡ true → p.factored c j ≡ true
  pub filed : (c : ℕ) → c ≢ i → q.filed c ≡ p.filed c
  pub set : (side : Bool) (l : ℕ) → l < s.links → component_at s side l ≢ i → q.set side l ≡ p.set side l
  pub joined : (side : Bool) (l : ℕ) → l < s.links → component_at s side l ≢ i → q.joined side l ≡ p.joined side l

module _ (s : Assembly) (p q : Progress) where
  built_else : (c : ℕ) (a : Component) → ((j : ℕ) → q.factored c j ≡ true → p.factored c j ≡ true) → q.filed c ≡ p.filed c → IsBuiltAs s p c a → IsBuiltAs s q c a
  built_else c a f e B = record { number = B.number; fresh_else = B.fresh_else; settings = B.settings; gain = B.gain; factors = λ j x d t. B.factors j x d (f j t); file = B.file ∙ ap (λ (b : Bool). option_map attached (file_by s b c)) (sym e); calm = B.calm }

  ends_else : (side : Bool) (l : ℕ) (a : Component) → q.set side l ≡ p.set side l → q.joined side l ≡ p.joined side l → HasEnd s p side l a → HasEnd s q side l a
  ends_else side l a e f E = record {
    setting = E.setting ∙ ap (λ (b : Bool). Some (setting_by s b side l)) (sym e);
    state = E.state ∙ ap (λ (b : Bool). Some (state_by s b side l)) (sym f);
  }

  pub replaced : (cs : List Component) (i : ℕ) (a b : Component) → AreBuilt s p cs → slice_get cs i ≡ Some a → IsBuiltAs s q i b
      → ((side : Bool) (l : ℕ) → l < s.links → component_at s side l ≡ i → HasEnd s q side l b) → IsElse s p q i → AreBuilt s q (set cs i b)
  replaced cs i a b A e B E O = record {
    each = λ c y f. elim (at_set cs i c b y f) [
      | inl h ↦ subst (λ (z : ℕ). IsBuiltAs s q z y) (sym h.0) (subst (IsBuiltAs s q i) (sym h.1) B)
      | inr h ↦ built_else c y (λ j t. O.factored c j h.0 t) (O.filed c h.0) (A.each c y h.1)
    ];
    ends = λ side l y d f. elim (at_set cs i (component_at s side l) b y f) [
      | inl h ↦ subst (HasEnd s q side l) (sym h.1) (E side l d h.0)
      | inr h ↦ ends_else side l y (O.set side l d h.0) (O.joined side l d h.0) (A.ends side l y d h.1)
    ];
  }

-- ---- one end of a link

abbrev pub with_end : ℕ → PortSetting → PortState → Component → Component
with_end k setting state a = record a { settings = record a.settings { ports = set a.settings.ports k setting }; ports = set a.ports k state }

-- all but this end is as far as it was
pub record IsOneEnd (s : Assembly) (p q : Progress) (side : Bool) (l : ℕ) : Type 0 where
  pub factored : (c j : ℕ) → q.factored c j ≡ true → p.factored c j ≡ true
  pub filed : (c : ℕ) → q.filed c ≡ p.filed c
  pub set : (other : Bool) (k : ℕ) → k < s.links → ((other ≡ side) × (k ≡ l)) ⊎ (q.set other k ≡ p.set other k)
  pub joined : (other : Bool) (k : ℕ) → k < s.links → ((other ≡ side) × (k ≡ l)) ⊎ (q.joined other k ≡ p.joined other k)

module _ (s : Assembly) (L : IsLawful s) (p q : Progress) (side : Bool) (l : ℕ) (b : l < s.links) (O : IsOneEnd s p q side l) where
  one_else : IsElse s p q (component_at s side l)
  one_else = record {
    factored = λ c j n t. O.factored c j t;
    filed = λ c n. O.filed c;
    set = λ other k d n. elim (O.set other k d) [ inl h ↦ absurd (n (λ i. component_at s (h.0 i) (h.1 i))) | inr h ↦ h ];
    joined = λ other k d n. elim (O.joined other k d) [ inl h ↦ absurd (n (λ i. component_at s (h.0 i) (h.1 i))) | inr h ↦ h ];
  }

  module _ (cs : List Component) (a : Component) (A : AreBuilt s p cs) (e : slice_get cs (component_at s side l) ≡ Some a)
      (setting : PortSetting) (state : PortState) (set_so : setting ≡ setting_by s (q.set side l) side l) (state_so : state ≡ state_by s (q.joined side l) side l) (calm : IsCalmPort state) where
    its_end : Component
    its_end = with_end (s.end side l).port setting state a

    here : HasEnd s q side l (with_end (s.end side l).port setting state a)
    here =
        let E = A.ends side l a b e in
        record {
          setting = set_there a.settings.ports (s.end side l).port _ setting E.setting ∙ ap (λ (y : PortSetting). Some y) set_so;
          state = set_there a.ports (s.end side l).port _ state E.state ∙ ap (λ (y : PortState). Some y) state_so;
        }

    other_end : (other : Bool) (k : ℕ) → k < s.links → component_at s other k ≡ component_at s side l → (s.end other k).port ≢ (s.end side l).port → HasEnd s q other k (with_end (s.end side l).port setting state a)
    other_end other k d c n =
        let E = ends_else s p q other k a (same_set (O.set other k d)) (same_set (O.joined other k d)) (A.ends other k a d (ap (slice_get cs) c ∙ e)) in
        record {
          setting = set_else a.settings.ports (s.end side l).port (s.end other k).port setting n ∙ E.setting;
          state = set_else a.ports (s.end side l).port (s.end other k).port state n ∙ E.state;
        }
      where
        same_set : {x y : Bool} → ((other ≡ side) × (k ≡ l)) ⊎ (x ≡ y) → x ≡ y
        same_set (inl h) = absurd (n (λ i. (s.end (h.0 i) (h.1 i)).port))
        same_set (inr h) = h

    pub end_put : AreBuilt s q (set cs (component_at s side l) (with_end (s.end side l).port setting state a))
    end_put =
        let B = A.each (component_at s side l) a e in
        let k : ℕ = (s.end side l).port in
        let change : Component → Component = λ y. record y { settings = record y.settings { ports = set a.settings.ports k setting }; ports = set a.ports k state } in
        replaced s p q cs (component_at s side l) a (with_end k setting state a) A e
        (record {
          number = B.number;
          fresh_else = ap (λ (y : Component). record y { settings = record a.settings { ports = set a.settings.ports k setting }; ports = set a.ports k state }) B.fresh_else;
          settings = ap (λ (y : Settings). record y { ports = set a.settings.ports k setting }) B.settings;
          gain = B.gain;
          factors = λ j x d t. B.factors j x d (O.factored (component_at s side l) j t);
          file = B.file ∙ ap (λ (f : Bool). option_map attached (file_by s f (component_at s side l))) (sym (O.filed (component_at s side l)));
          calm = all_set IsCalmPort a.ports k state B.calm calm;
        })
        (λ other j d c. elim (cases_eq (s.end other j).port k) [
          | inl h ↦
              let key : s.end other j ≡ s.end side l = λ i. record { component = c i; port = h i } in
              let one = L.one other side j l d b key in
              subst (λ (z : Bool). HasEnd s q z j (with_end k setting state a)) (sym one.0) (subst (λ (z : ℕ). HasEnd s q side z (with_end k setting state a)) (sym one.1) here)
          | inr h ↦ other_end other j d c h
        ])
        one_else
