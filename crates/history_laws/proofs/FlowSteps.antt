-- What comes of a component's acts on one of its ports.
use Rattle.std.proofs.Common.{◌≡◌, ℕ, true, ◌++◌, Option, Some, None, Result, refl, ap}
use Rattle.omx_types.specs.declared.handle.Handle.{Handle}
use Rattle.omx_types.specs.declared.error.OmxError.{OmxError}
use Rattle.omx_types.specs.declared.error.CallError.{CallError}
use Rattle.omx_types.specs.declared.error.CallError.TheVariants.{Omx}
use Rattle.il_machine.specs.declared.answer.Acted.{Acted}
use Rattle.il_machine.specs.declared.answer.Why.TheVariants as why
use Rattle.il_machine.specs.declared.port.PortKey.{PortKey}
use Rattle.il_machine.specs.declared.port.Link.{Link}
use Rattle.il_machine.specs.declared.port.Port.{Port}
use Rattle.il_machine.specs.World.{Component, World}
use Rattle.il_machine.specs.Headers.{seen}
use Rattle.il_machine.specs.Look.{Look, look}
use Rattle.il_machine.specs.Ports.{is_supplier}
use Rattle.il_machine.specs.Answers.{plain}
use Rattle.il_machine.specs.Flow.{Supply, Release, HandOver, HandBack, supply_idle, release_idle, over_idle, back_idle, with_supplied, supplied_by, tunnel_header, in_port, front_unmade, handed_over, handed_back}
use Rattle.il_machine.specs.Acts as acts
use Rattle.il_machine.specs.Trails.{Unmade, moved, port_stop}
use Rattle.il_machine.specs.Sound.{Sound, port_at}
use Rattle.machine_laws.proofs.Finding.{either}
use Rattle.machine_laws.proofs.Lookups.{port_there_at}
use Rattle.machine_laws.proofs.Parts.{parts_of, ports_in_list}
use Rattle.history_laws.proofs.Births.{silent_same}
use Rattle.history_laws.proofs.Carried.{Made}
use Rattle.history_laws.proofs.Out.{works_same}
use Rattle.history_laws.proofs.Homes.{set_in, supplier_joined, supplier_home}
use Rattle.history_laws.proofs.BufferSteps.{named_port_is}
use Rattle.history_laws.proofs.HeaderActs.{front_ends, in_port_of, over_moves, over_silent, back_moves, back_silent, unmade_silent, unmade_works, over_works, back_works, named_port, named_key, key_component}
use Rattle.history_laws.proofs.Outcome.{turn, Turn, Outcome, done, acts as acts_come, on_port}

-- what supplies or releases is the supplier
supply_supplies : (l : Look) (c : Component) (p : Port) → supply_idle l c p ≡ None → is_supplier p ≡ true
supply_supplies l c p n = either (is_supplier p) (λ t. t) (λ f. let s : Some why.NotSupplier ≡ None = rw f at n in absurd cc)

release_supplies : (l : Look) (c : Component) (p : Port) → release_idle l c p ≡ None → is_supplier p ≡ true
release_supplies l c p n = either (is_supplier p) (λ t. t) (λ f. let s : Some why.NotSupplier ≡ None = rw f at n in absurd cc)

-- ---- supply

pub supply : (w : World) (h : Handle) (port : ℕ) (result : Result Acted CallError) (v : World) → Supply w h port result v → Outcome w (turn w (acts.Supply h port) (acts.Supplied result)) v
supply w h port result v a =
    let ms : Result Acted CallError → Turn = λ r. turn w (acts.Supply h port) (acts.Supplied r) in
    on_port Omx w h port result v _ a ms (λ e. refl) (λ i c p named e b.
    acts_come (supply_idle (look w) c p) result w (with_supplied p w) v ms (λ y. refl) b (λ n C.
    let supplies = supply_supplies (look w) c p n in
    let link = supplier_joined p supplies in
    let mid = with_supplied p w in
    let is = link.1 in
    done w v _ mid (named_port_is w h i c port p (λ i c p. with_supplied p w) named e) C (record {
      silent = silent_same w mid refl refl refl;
      carried = Made (record {
        state = tunnel_header w.made p (link.0).peer;
        memory = None;
        number = refl;
        headers = ap (λ (o : Option Link). w.headers ++ supplied_by w.made p o) is;
        made = refl;
        home = refl;
        moves = ap (λ (k : PortKey). moved w.made Unmade (port_stop k)) (named_key w h i c port p named e);
      });
      works = works_same None w mid refl refl;
    })))

-- ---- release

pub release : (w : World) (h : Handle) (port : ℕ) (result : Result Acted OmxError) (v : World) → Sound w → Release w h port result v → Outcome w (turn w (acts.Release h port) (acts.Acted result)) v
release w h port result v S a =
    let ms : Result Acted OmxError → Turn = λ r. turn w (acts.Release h port) (acts.Acted r) in
    on_port plain w h port result v _ a ms (λ e. refl) (λ i c p named e b.
    let mid = front_unmade (in_port (seen w.headers) p) w in
    acts_come (release_idle (look w) c p) result w mid v ms (λ y. refl) b (λ n C.
    let supplies = release_supplies (look w) c p n in
    let there : port_at p.key w.components ≡ Some p = port_there_at w.numbered i w.components c port p S.rising named.there e in
    let at = named_port w h i c port p named e in
    rw at (done w v _ mid (named_port_is w h i c port p (λ i c p. front_unmade (in_port (seen w.headers) p) w) named e) C (record {
      silent = unmade_silent w (in_port (seen w.headers) p);
      carried = front_ends w p.key (in_port (seen w.headers) p) (in_port_of w p S.once)
          (λ k r f own. supplier_home (ports_in_list w.components) w p.key p r.state ((parts_of w S).tied) there supplies (set_in w k r S f) own);
      works = unmade_works w (in_port (seen w.headers) p);
    }))))

-- ---- hand_over and hand_back

pub hand_over : (w : World) (h : Handle) (port : ℕ) (result : Result Acted OmxError) (v : World) → Sound w → HandOver w h port result v → Outcome w (turn w (acts.HandOver h port) (acts.Acted result)) v
hand_over w h port result v S a =
    let ms : Result Acted OmxError → Turn = λ r. turn w (acts.HandOver h port) (acts.Acted r) in
    on_port plain w h port result v _ a ms (λ e. refl) (λ i c p named e b.
    let mid = handed_over p w in
    acts_come (over_idle (look w) c p) result w mid v ms (λ y. refl) b (λ n C.
    let at = named_port w h i c port p named e in
    rw at (done w v _ mid (named_port_is w h i c port p (λ i c p. handed_over p w) named e) C (record { silent = over_silent w p p.state.link; carried = over_moves w p p.state.link S.once; works = over_works w p p.state.link }))))

pub hand_back : (w : World) (h : Handle) (port : ℕ) (result : Result Acted OmxError) (v : World) → Sound w → HandBack w h port result v → Outcome w (turn w (acts.HandBack h port) (acts.Acted result)) v
hand_back w h port result v S a =
    let ms : Result Acted OmxError → Turn = λ r. turn w (acts.HandBack h port) (acts.Acted r) in
    on_port plain w h port result v _ a ms (λ e. refl) (λ i c p named e b.
    let mid = handed_back i c p p.state.link w in
    acts_come (back_idle (look w) c p) result w mid v ms (λ y. refl) b (λ n C.
    let at = named_port w h i c port p named e in
    rw at (done w v _ mid (named_port_is w h i c port p (λ i c p. handed_back i c p p.state.link w) named e) C (record { silent = back_silent i c p w p.state.link named.there; carried = back_moves i c p w p.state.link S.once (key_component c port p e); works = back_works i c p w p.state.link named.there }))))
