-- Where an end of a link accepts a header: by the model's phase and stage, and by the number of its port.
use Rattle.std.proofs.Common.{◌≡◌, ◌≢◌, inl, inr, ℕ, zero, suc, ◌<◌, ◌≤◌, Bool, true, false, not, ◌&&◌, ◌||◌, nat_eq, is_none, refl, sym, ◌∙◌, ap, ne_eqb, arith}
use Rattle.std.proofs.lemmas.Bool.{eqb-false}
use Rattle.omx_types.specs.declared.state.State.TheVariants as states
use Rattle.il_machine.specs.declared.port.PortState.{PortState}
use Rattle.il_machine.specs.Headers.{seen}
use Rattle.il_machine.specs.Lists.{holds_at}
use Rattle.il_machine.specs.Ports.{accepting, is_at_rest, is_going_to, is_populated}
use Rattle.il_machine.specs.States.{is_down, is_up, same_state}
use Rattle.il_machine.specs.World.{Component, World}
use Rattle.machine_laws.proofs.Accepting.{both_of}
use Rattle.play_model.specs.Changes.{IsEnabledPort, port_at}
use Rattle.play_model.specs.Play.{IsAccepting, Play, component_at, made}
use Rattle.play_world_laws.specs.Cast.{links_of}
use Rattle.play_world_laws.specs.Standing.{pending_at, state_at}
use Rattle.play_world_laws.proofs.Supplying.{populated_by}
use Rattle.play_world_laws.specs.Changing.{is_enabled_at, is_joined_at}
use Rattle.play_world_laws.specs.PlayWorlds.{IsActorAt, IsPlayWorld, PlayCast, end_of_link}
use Rattle.play_world_laws.proofs.ChangeCounts.{made_at_end}
use Rattle.play_world_laws.proofs.Sides.{IsSide}

-- ---- by phase and stage

abbrev goes_idle : ℕ → ℕ → Bool
goes_idle phase stage = holds_at (pending_at phase stage) (λ p. same_state p.target states.Idle)

abbrev accepts_at : ℕ → ℕ → Bool
accepts_at phase stage = (is_down (state_at phase stage) && goes_idle phase stage) || (is_up (state_at phase stage) && is_none (pending_at phase stage))

up_way : (stage : ℕ) → 2 ≤ stage → accepts_at 1 stage ≡ true
up_way zero l = absurd (omega arith)
up_way (suc zero) l = absurd (omega arith)
up_way (suc (suc zero)) l = refl
up_way (suc (suc (suc n))) l = refl

running_way : (stage : ℕ) → stage ≢ 2 → (accepts_at 2 stage ≡ true) × (accepts_at 3 stage ≡ true)
running_way zero n = (refl, refl)
running_way (suc zero) n = (refl, refl)
running_way (suc (suc zero)) n = absurd (n refl)
running_way (suc (suc (suc k))) n = (refl, refl)

down_way : (stage : ℕ) → stage ≤ 1 → accepts_at 4 stage ≡ true
down_way zero l = refl
down_way (suc zero) l = refl
down_way (suc (suc n)) l = absurd (omega arith)

none_way : (stage : ℕ) → accepts_at 0 stage ≡ true → ⊥
none_way zero e = cc
none_way (suc zero) e = cc
none_way (suc (suc zero)) e = cc
none_way (suc (suc (suc n))) e = cc

up_back : (stage : ℕ) → accepts_at 1 stage ≡ true → 2 ≤ stage
up_back zero e = absurd cc
up_back (suc zero) e = absurd cc
up_back (suc (suc n)) e = omega arith

start_back : (stage : ℕ) → accepts_at 2 stage ≡ true → stage ≢ 2
start_back (suc (suc zero)) e = absurd cc
start_back zero e = λ z. omega arith
start_back (suc zero) e = λ z. omega arith
start_back (suc (suc (suc n))) e = λ z. omega arith

stop_back : (stage : ℕ) → accepts_at 3 stage ≡ true → stage ≢ 2
stop_back (suc (suc zero)) e = absurd cc
stop_back zero e = λ z. omega arith
stop_back (suc zero) e = λ z. omega arith
stop_back (suc (suc (suc n))) e = λ z. omega arith

down_back : (stage : ℕ) → accepts_at 4 stage ≡ true → stage ≤ 1
down_back zero e = omega arith
down_back (suc zero) e = omega arith
down_back (suc (suc zero)) e = absurd cc
down_back (suc (suc (suc n))) e = absurd cc

accepts : (p : Play) (c : ℕ) → IsAccepting p c → accepts_at p.phase (p.stage c) ≡ true
accepts p c (inl h) = rw h.0 (up_way (p.stage c) h.1)
accepts p c (inr (inl h)) = rw h.0 (running_way (p.stage c) h.1).0
accepts p c (inr (inr (inl h))) = rw h.0 (running_way (p.stage c) h.1).1
accepts p c (inr (inr (inr h))) = rw h.0 (down_way (p.stage c) h.1)

accepts_by : (phase : ℕ) (p : Play) (c : ℕ) → p.phase ≡ phase → phase ≤ 4 → accepts_at phase (p.stage c) ≡ true → IsAccepting p c
accepts_by zero p c e l t = absurd (none_way (p.stage c) t)
accepts_by (suc zero) p c e l t = inl (e, up_back (p.stage c) t)
accepts_by (suc (suc zero)) p c e l t = inr (inl (e, start_back (p.stage c) t))
accepts_by (suc (suc (suc zero))) p c e l t = inr (inr (inl (e, stop_back (p.stage c) t)))
accepts_by (suc (suc (suc (suc zero)))) p c e l t = inr (inr (inr (e, down_back (p.stage c) t)))
accepts_by (suc (suc (suc (suc (suc n))))) p c e l t = absurd (omega arith)

-- ---- by the number of the port

enabled_at : (n : ℕ) → IsEnabledPort n → is_enabled_at n ≡ true
enabled_at zero h = refl
enabled_at (suc zero) h = refl
enabled_at (suc (suc zero)) h = absurd (elim h [ inl c ↦ omega arith | inr c ↦ omega arith ])
enabled_at (suc (suc (suc zero))) h = absurd (elim h [ inl c ↦ omega arith | inr c ↦ omega arith ])
enabled_at (suc (suc (suc (suc zero)))) h = absurd (elim h [ inl c ↦ omega arith | inr c ↦ omega arith ])
enabled_at (suc (suc (suc (suc (suc zero))))) h = absurd (elim h [ inl c ↦ omega arith | inr c ↦ omega arith ])
enabled_at (suc (suc (suc (suc (suc (suc n)))))) h = refl

at_enabled : (n : ℕ) → is_enabled_at n ≡ true → IsEnabledPort n
at_enabled zero h = inl (omega arith)
at_enabled (suc zero) h = inl (omega arith)
at_enabled (suc (suc zero)) h = absurd cc
at_enabled (suc (suc (suc zero))) h = absurd cc
at_enabled (suc (suc (suc (suc zero)))) h = absurd cc
at_enabled (suc (suc (suc (suc (suc zero))))) h = absurd cc
at_enabled (suc (suc (suc (suc (suc (suc n)))))) h = inr (omega arith)

-- ---- an end of a link that has its tunnel

abbrev may_accept : Component → Bool
may_accept a = (is_down a.state && is_going_to states.Idle a) || (is_up a.state && is_at_rest a)

may_accept_is : (x : PlayCast) (recent : ℕ) (p : Play) (w : World) (c : ℕ) (a : Component) → IsActorAt x recent p w c a → may_accept a ≡ accepts_at p.phase (p.stage c)
may_accept_is x recent p w c a A = ap may_accept A.stands

all_three : (a n m : Bool) → a ≡ true → n ≡ false → m ≡ true → (a && not n && m) ≡ true
all_three a n m e f g = rw (e, f, g) refl

not_so : (b : Bool) → not b ≡ true → b ≡ false
not_so true e = absurd cc
not_so false e = refl

module _ (x : PlayCast) (recent : ℕ) (p : Play) (w : World) (W : IsPlayWorld x recent p w) (l : ℕ) (b : l < links_of x.cast) (joined : is_joined_at (p.change l).step ≡ true) (o : Bool) (S : IsSide x recent p w l o) where
  abbrev count : ℕ
  count = (((x.cast).layout).network).count l

  abbrev c : ℕ
  c = component_at (x.cast).layout o l

  populated_is : is_populated (seen w.headers) (S.its).port ≡ nat_eq (made p l) count
  populated_is = populated_by (seen w.headers) (S.its).port (end_of_link x.cast o l) (made p l) count ((S.its).end).key ((S.its).end).count (made_at_end x recent p w W l b joined o)

  enabled_is : (S.its).port.state.enabled ≡ is_enabled_at (port_at o (p.change l))
  enabled_is = ap (λ (s : PortState). s.enabled) ((S.its).end).state

  pub side_accepts : IsAccepting p c → made p l < count → IsEnabledPort (port_at o (p.change l)) → accepting (seen w.headers) S.component (S.its).port ≡ true
  side_accepts R few N =
      let n : is_populated (seen w.headers) (S.its).port ≡ false = populated_is ∙ ne_eqb (made p l) count (λ e. omega arith) in
      let m : may_accept S.component ≡ true = may_accept_is x recent p w c S.component S.actor ∙ accepts p c R in
      let e : (S.its).port.state.enabled ≡ true = enabled_is ∙ enabled_at (port_at o (p.change l)) N in
      all_three (S.its).port.state.enabled (is_populated (seen w.headers) (S.its).port) (may_accept S.component) e n m

  pub side_back : accepting (seen w.headers) S.component (S.its).port ≡ true → IsAccepting p c × (made p l < count) × IsEnabledPort (port_at o (p.change l))
  side_back t =
      let f = both_of ((S.its).port.state.enabled && not (is_populated (seen w.headers) (S.its).port)) (may_accept S.component) t in
      let g = both_of (S.its).port.state.enabled (not (is_populated (seen w.headers) (S.its).port)) f.0 in
      let n : nat_eq (made p l) count ≡ false = sym populated_is ∙ not_so (is_populated (seen w.headers) (S.its).port) g.1 in
      let d = eqb-false (made p l) count n in
      let few = (W.reached).few l b in (
        accepts_by p.phase p c refl (W.reached).phase (sym (may_accept_is x recent p w c S.component S.actor) ∙ f.1),
        omega arith,
        at_enabled (port_at o (p.change l)) (sym enabled_is ∙ g.0),
      )
