-- What one happening, and the close-out, do to a world.
use Rattle.std.proofs.Common.{◌≡◌, ℕ, zero, suc, false, List, [], ◌∷◌, set, slice_get, Option, Some, None, refl, sym, ◌∙◌, ap, subst}
use Rattle.omx_types.specs.declared.command.Completion.TheVariants as completions
use Rattle.omx_types.specs.declared.command.Event.TheVariants.{CmdComplete}
use Rattle.il_machine.specs.declared.answer.Pending.{Pending}
use Rattle.il_machine.specs.declared.port.Mode.TheVariants.{Steady}
use Rattle.il_machine.specs.declared.port.Port.{Port}
use Rattle.il_machine.specs.World.{Component, World, with_port, port_of, told}
use Rattle.il_machine.specs.Headers.{seen, find_header, Once}
use Rattle.il_machine.specs.Due.{Thing, Transition, Flush, PortMode, WaitingMark, due_in, arrived, mode_completion, all_told, transition_happened, at_port, flush_happened, mode_happened, mark_happened, happened, Happens, HappenTimes}
use Rattle.il_machine.specs.Queued.{Tells}
use Rattle.machine_laws.proofs.Lookups.{port_parts}
use Rattle.history_laws.proofs.Growth.{Says, says_not, says, says_after}
use Rattle.history_laws.proofs.Happening.{Passes, target_due, arrival_grows, arrival_passes, mode_grows, mode_passes}
use Rattle.history_laws.proofs.Owners.{Settles, settles_not, settles_on, port_settles, arrival_settles, mark_settles, IsAway, port_outs, arrival_outs, mark_outs}
use Rattle.history_laws.proofs.Out.{IsStillOut, still_itself}
use Rattle.history_laws.proofs.StillOut.{still_done, still_arrived}

-- The thing of the component c, which is at the place i, happened.
pub record IsHappening (i : ℕ) (c : Component) (thing : Thing) (w v : World) : Type 0 where
  pub component : Component
  pub components : v.components ≡ set w.components i component
  pub grows : Says (Tells c thing) c component
  pub passes : Passes c thing component
  pub given : v.given ≡ w.given
  pub made : v.made ≡ w.made
  pub numbered : v.numbered ≡ w.numbered
  pub settles : Once w.headers → Settles w.headers v.headers
  pub still : IsStillOut c component
  pub streams : v.streams ≡ w.streams
  pub outs : Once w.headers → (m : ℕ) → IsAway m w.headers → find_header m v.headers ≡ find_header m w.headers

set_same : {X : Type 0} (xs : List X) (i : ℕ) (x : X) → slice_get xs i ≡ Some x → xs ≡ set xs i x
set_same [] i x e = refl
set_same (y ∷ xs) zero x e = let s : y ≡ x = cc in rw s refl
set_same (y ∷ xs) (suc i) x e = ap (λ (l : List _). y ∷ l) (set_same xs i x e)

nothing_happened : (i : ℕ) (c : Component) (thing : Thing) (w : World) → slice_get w.components i ≡ Some c → Passes c thing c → IsHappening i c thing w w
nothing_happened i c thing w at p = record {
  component = c;
  components = set_same w.components i c at;
  grows = says_not (Tells c thing) c c refl refl;
  passes = p;
  given = refl;
  made = refl;
  numbered = refl;
  settles = settles_not w.headers;
  still = still_itself c;
  streams = refl;
  outs = λ o m a. refl;
}

key_is_port : (c : Component) (port : ℕ) (p : Port) → port_of c port ≡ Some p → port ≡ p.key.port
key_is_port c port p e = sym (ap (λ (k : _). k.port) (port_parts c port p e).key)

tells_flush : (c : Component) (port : ℕ) (p : Port) → port_of c port ≡ Some p → Tells c (Flush port) (completions.Flush p.key.port)
tells_flush c port p e = key_is_port c port p e

flushed : (i : ℕ) (c : Component) (port : ℕ) (p : Port) (w : World) → slice_get w.components i ≡ Some c → port_of c port ≡ Some p → IsHappening i c (Flush port) w (flush_happened i c p w)
flushed i c port p w at e =
    let m : Component = with_port p.key.port (record p.state { flushing = false }) c in
    let d : Component = told (CmdComplete (completions.Flush p.key.port)) m in
    record {
      component = d;
      components = refl;
      grows = says_after (Tells c (Flush port)) c m d refl refl (says (Tells c (Flush port)) (completions.Flush p.key.port) m (tells_flush c port p e));
      passes = (refl, refl);
      given = refl;
      made = refl;
      numbered = refl;
      settles = λ o. port_settles p w.headers o;
      still = still_done (CmdComplete (completions.Flush p.key.port) ∷ []) port p (record p.state { flushing = false }) c e refl;
      streams = refl;
      outs = λ o n a. port_outs p n w.headers o a;
    }

marked_so : (i : ℕ) (c : Component) (port : ℕ) (p : Port) (w : World) → slice_get w.components i ≡ Some c → port_of c port ≡ Some p → IsHappening i c (WaitingMark port) w (mark_happened i c p w)
marked_so i c port p w at e =
    let m : Component = with_port p.key.port (record p.state { waiting_mark = None }) c in
    let d : Component = told (CmdComplete (completions.Mark p.key.port)) m in
    record {
      component = d;
      components = refl;
      grows = says_after (Tells c (WaitingMark port)) c m d refl refl (says (Tells c (WaitingMark port)) (completions.Mark p.key.port) m (key_is_port c port p e));
      passes = (refl, refl);
      given = refl;
      made = refl;
      numbered = refl;
      settles = λ o. mark_settles ((seen w.headers).unmarked p.key) p.state.waiting_mark w.headers o;
      still = still_done (CmdComplete (completions.Mark p.key.port) ∷ []) port p (record p.state { waiting_mark = None }) c e refl;
      streams = refl;
      outs = λ o n a. mark_outs p.key p.state.waiting_mark n w.headers o a;
    }

steadied : (i : ℕ) (c : Component) (port : ℕ) (p : Port) (w : World) → slice_get w.components i ≡ Some c → port_of c port ≡ Some p → IsHappening i c (PortMode port) w (mode_happened i c p w)
steadied i c port p w at e =
    let m : Component = with_port p.key.port (record p.state { mode = Steady }) c in
    let g : Says (Tells c (PortMode port)) m (all_told (mode_completion p.state.mode p.key.port) m) =
    subst (λ (k : ℕ). Says (Tells c (PortMode port)) m (all_told (mode_completion p.state.mode k) m)) (key_is_port c port p e) (mode_grows c port p m p.state.mode e refl) in
    let q = mode_passes p.state.mode p.key.port m in
    record {
      component = all_told (mode_completion p.state.mode p.key.port) m;
      components = refl;
      grows = says_after (Tells c (PortMode port)) c m (all_told (mode_completion p.state.mode p.key.port) m) refl refl g;
      passes = (q.0, q.1);
      given = refl;
      made = refl;
      numbered = refl;
      settles = settles_not w.headers;
      still = still_done (mode_completion p.state.mode p.key.port) port p (record p.state { mode = Steady }) c e refl;
      streams = refl;
      outs = λ o n a. refl;
    }

at_port_happens : (i : ℕ) (c : Component) (thing : Thing) (w : World) (o : Option Port) (change : Port → World → World) → slice_get w.components i ≡ Some c → Passes c thing c
    → ((p : Port) → o ≡ Some p → IsHappening i c thing w (change p w)) → IsHappening i c thing w (at_port o change w)
at_port_happens i c thing w None change at p h = nothing_happened i c thing w at p
at_port_happens i c thing w (Some x) change at p h = h x refl

arrival : (i : ℕ) (c : Component) (p : Pending) (w : World) → slice_get w.components i ≡ Some c → c.pending ≡ Some p → IsHappening i c Transition w (transition_happened i c (Some p) w)
arrival i c p w at e = record {
  component = arrived w.waits p c;
  components = refl;
  grows = arrival_grows w.waits c p e;
  passes = arrival_passes w.waits c p e;
  given = refl;
  made = refl;
  numbered = refl;
  settles = λ o. arrival_settles c p.target w.headers o;
  still = still_arrived w.waits p c;
  streams = refl;
  outs = λ o m a. arrival_outs c p.target m w.headers o a;
}

is_happening : (i : ℕ) (c : Component) (thing : Thing) (w : World) → slice_get w.components i ≡ Some c → due_in (seen w.headers) c ≡ Some thing → IsHappening i c thing w (happened i c thing w)
is_happening i c Transition w at due =
    let t = target_due (seen w.headers) c due in
    subst (λ (o : Option Pending). IsHappening i c Transition w (transition_happened i c o w)) (sym t.1) (arrival i c t.0 w at t.1)
is_happening i c (Flush port) w at due = at_port_happens i c (Flush port) w (port_of c port) (flush_happened i c) at (refl, refl) (λ p e. flushed i c port p w at e)
is_happening i c (PortMode port) w at due = at_port_happens i c (PortMode port) w (port_of c port) (mode_happened i c) at (refl, refl) (λ p e. steadied i c port p w at e)
is_happening i c (WaitingMark port) w at due = at_port_happens i c (WaitingMark port) w (port_of c port) (mark_happened i c) at (refl, refl) (λ p e. marked_so i c port p w at e)

pub happening_of : (w v : World) (h : Happens w v) → IsHappening h.place h.component h.thing w v
happening_of w v h = subst (λ (x : World). IsHappening h.place h.component h.thing w x) (sym h.after) (is_happening h.place h.component h.thing w h.there h.due)

-- ---- many happenings

pub times_settle : (n : ℕ) (w v : World) → HappenTimes n w v → Once w.headers → Settles w.headers v.headers
times_settle zero w v e o = rw e (settles_not w.headers o)
times_settle (suc n) w v (mid, before, last) o =
    let a = times_settle n w mid before o in
    settles_on w.headers mid.headers v.headers a ((happening_of mid v last).settles a.once)

pub times_made : (n : ℕ) (w v : World) → HappenTimes n w v → v.made ≡ w.made
times_made zero w v e = ap (λ (x : World). x.made) e
times_made (suc n) w v (mid, before, last) = (happening_of mid v last).made ∙ times_made n w mid before
