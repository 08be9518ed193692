-- What becomes of the headers of a link keeps the streams of a world with late sources: one is made, unmade, handed over or handed back.
use Rattle.std.proofs.Common.{◌≡◌, inl, inr, ℕ, ◌+◌, ◌<◌, Bool, true, false, not, List, [], ◌∷◌, ◌++◌, Option, Some, None, Result, refl, sym, ◌∙◌, ap, subst, append-nil, arith}
use Rattle.omx_types.specs.declared.error.CallError.{CallError}
use Rattle.omx_types.specs.declared.error.CallError.TheVariants.{Omx}
use Rattle.omx_types.specs.declared.error.OmxError.{OmxError}
use Rattle.omx_types.specs.declared.handle.Handle.{Handle}
use Rattle.il_machine.specs.declared.answer.Acted.{Acted}
use Rattle.il_machine.specs.declared.header.Spot.TheVariants.{TodoBack}
use Rattle.il_machine.specs.declared.port.Link.{Link}
use Rattle.il_machine.specs.declared.port.Port.{Port}
use Rattle.il_machine.specs.declared.port.PortKey.{PortKey}
use Rattle.il_machine.specs.Answers.{plain, Acts}
use Rattle.il_machine.specs.Flow.{HandBack, HandOver, OnPort, Release, Supply, back_idle, front_unmade, handed_back, handed_over, in_port, over_idle, release_idle, supplied_by, supplied_spot, supply_idle, tunnel_header, with_supplied}
use Rattle.il_machine.specs.Headers.{cleared, empty_load, in_done, in_todo, put, same_key, seen, unchanged}
use Rattle.il_machine.specs.Lists.{is_empty}
use Rattle.il_machine.specs.Look.{look}
use Rattle.il_machine.specs.Ports.{is_input_port}
use Rattle.il_machine.specs.World.{Component, HeaderRecord, World, port_of}
use Rattle.machine_laws.proofs.Finding.{either}
use Rattle.machine_laws.proofs.Listed.{AreIn, both_in, done_in, todo_in}
use Rattle.play_model.specs.Acts.{Act, CanAct, acted}
use Rattle.play_model.specs.Play.{Play, component_at, other_component, supplier}
use Rattle.play_world_laws.specs.Cast.{Cast, away_at, home_at, input_at, links_of, output_at, script_place}
use Rattle.play_world_laws.specs.Worlds.{Names}
use Rattle.play_world_laws.proofs.Flowing.{key_not}
use Rattle.play_world_laws.proofs.Lists.{resolved_port}
use Rattle.play_stream_laws.specs.Contents.{PlayContents}
use Rattle.play_stream_laws.proofs.Closing.{flow_none}
use Rattle.play_stream_laws.proofs.Keeping.{KeepsFlow}
use Rattle.play_world_laws.specs.PlayWorlds.{IsPlayWorld, PlayCast, end_of_link, port_number}
use Rattle.play_world_laws.proofs.Backs.{a, away_done, back_can, back_is, y}
use Rattle.play_world_laws.proofs.Overs.{home_done, over_can, over_is}
use Rattle.play_world_laws.proofs.Releases.{leaves_so, release_can, released_world}
use Rattle.play_world_laws.proofs.RestingLinks.{low}
use Rattle.play_world_laws.proofs.Sides.{IsSide, away_is, home_is, other_is, side, supplier_is}
use Rattle.play_world_laws.proofs.Unuseds.{gives_so, left, rests, to, unused_can, unused_is, unused_world}
use Rattle.play_stream_laws.specs.PlayStreams.{HasPlayStreams}
use Rattle.play_stream_laws.proofs.Acts.{done_or_not, headers_close, world_stays}
use Rattle.play_stream_laws.proofs.Handing.{handed_flow, made_flow, unmade_flow, unused_flow}
use Rattle.play_stream_laws.proofs.PlayLinks.{numbers_in, quiet_numbers}

end_port : (x : Cast) (o : Bool) (l : ℕ) → (end_of_link x o l).port ≡ port_number x o l
end_port x true l = refl
end_port x false l = refl

twice : (o : Bool) → not (not o) ≡ o
twice true = refl
twice false = refl

module _ (x : PlayCast) (recent : ℕ) (p : Play) (w : World) (W : IsPlayWorld x recent p w) (l : ℕ) (b : l < links_of x.cast) where
  -- a call at the port of a side
  on_side : {T E : Type 0} (refuse : OmxError → E) (o : Bool) (c : ℕ) (key : PortKey) (h : Handle) (result : Result T E) (v : World) (Then : ℕ → Component → Port → Type 0) → c ≡ component_at (x.cast).layout o l → key ≡ end_of_link x.cast o l
      → Names x.cast w c h → OnPort refuse w h key.port result v Then → Then (script_place x.cast (component_at (x.cast).layout o l)) (side x recent p w W l o b).component ((side x recent p w W l o b).its).port
  on_side refuse o c key h result v Then e f N s =
      let S : IsSide x recent p w l o = side x recent p w W l o b in
      let M : Names x.cast w (component_at (x.cast).layout o l) h = subst (λ (j : ℕ). Names x.cast w j h) e N in
      let port : key.port ≡ port_number x.cast o l = ap (λ (z : PortKey). z.port) f ∙ end_port x.cast o l in
      let there : port_of S.component key.port ≡ Some (S.its).port = ap (port_of S.component) port ∙ (S.its).there in
      resolved_port refuse w h key.port result v Then (script_place x.cast (component_at (x.cast).layout o l)) S.component (S.its).port M S.there there s

  -- ---- what each leaves

  -- a header that is made waits at the end that makes it, empty
  supplied_flow : (o : Bool) (y : Port) → y.key ≡ end_of_link x.cast o l → is_input_port y ≡ not o → KeepsFlow x.cast w (with_supplied y w)
  supplied_flow o y key direction = by_link y.state.link
    where
      unlisted : (o : Bool) → y.key ≡ end_of_link x.cast o l → is_input_port y ≡ not o → (peer : PortKey) (k : ℕ) → k < links_of x.cast
          → (in_todo (input_at x.cast k) (tunnel_header w.made y peer) ≡ false) × (in_done (output_at x.cast k) (tunnel_header w.made y peer) ≡ false)
      unlisted true key direction peer k d =
          let apart : same_key y.key (input_at x.cast k) ≡ false = ap (λ (z : PortKey). same_key z (input_at x.cast k)) key ∙ key_not (output_at x.cast l) (input_at x.cast k) ((W.cast_is).beside l k b d) in
          (rw (direction, apart) refl, rw direction refl)
      unlisted false key direction peer k d =
          let apart : same_key y.key (output_at x.cast k) ≡ false = ap (λ (z : PortKey). same_key z (output_at x.cast k)) key ∙ key_not (input_at x.cast l) (output_at x.cast k) (λ e. (W.cast_is).beside k l d b (sym e)) in
          (rw direction refl, rw (direction, apart) refl)

      by_link : (o2 : Option Link) → KeepsFlow x.cast w (record w { headers = w.headers ++ supplied_by w.made y o2; made = w.made + 1 })
      by_link None = subst (λ (hs : List HeaderRecord). KeepsFlow x.cast w (record w { headers = hs; made = w.made + 1 })) (sym (append-nil w.headers)) (record { bytes = λ k d. refl; parts = λ i. refl })
      by_link (Some link) = made_flow x recent p w W (record { state = tunnel_header w.made y link.peer; load = empty_load None }) (w.made + 1) refl (unlisted o key direction link.peer)

  -- one that is unmade in phase 2 is of a link that is being changed
  quiet_leaving : (C : CanAct (x.cast).layout p (Act.Release l)) → p.phase ≡ 2 → (((x.cast).layout).is_late l ≡ true) × ((p.change l).output < 7)
  quiet_leaving C two = elim (leaves_so x recent p w W l b C) [
    | inl four ↦ absurd (omega arith)
    | inr d ↦ (d.0, (low x recent p w W l b (((x.cast).layout).by_output l) true d.0 d.1).0)
  ]

  released_flow : (C : CanAct (x.cast).layout p (Act.Release l)) (y : Port) → y.key ≡ end_of_link x.cast (((x.cast).layout).by_output l) l → IsPlayWorld x recent (acted (x.cast).layout (Act.Release l) p) (front_unmade (in_port (seen w.headers) y) w) → p.phase ≡ 2
      → KeepsFlow x.cast w (front_unmade (in_port (seen w.headers) y) w)
  released_flow C y key U two = by_front (in_port (seen w.headers) y) all U
    where
      all : AreIn (end_of_link x.cast (((x.cast).layout).by_output l) l) w.headers (in_port (seen w.headers) y)
      all =
          let e : PortKey = end_of_link x.cast (((x.cast).layout).by_output l) l in
          subst (λ (z : PortKey). AreIn e w.headers ((seen w.headers).todo z ++ (seen w.headers).done z)) (sym key)
          (both_in e w.headers ((seen w.headers).todo e) ((seen w.headers).done e) (todo_in e w.headers (W.sound).once) (done_in e w.headers (W.sound).once))

      by_front : (ns : List ℕ) → AreIn (end_of_link x.cast (((x.cast).layout).by_output l) l) w.headers ns → IsPlayWorld x recent (acted (x.cast).layout (Act.Release l) p) (front_unmade ns w) → KeepsFlow x.cast w (front_unmade ns w)
      by_front [] A U = flow_none x.cast w
      by_front (n ∷ ns) A U =
          let t = quiet_leaving C two in
          unmade_flow x recent p w W l b (((x.cast).layout).by_output l) n A.0 (quiet_numbers x recent p w W l b t.0 t.1) (quiet_numbers x recent (acted (x.cast).layout (Act.Release l) p) (front_unmade (n ∷ ns) w) U l b t.0 t.1)

  -- one that comes back unused, too
  quiet_unused : (C : CanAct (x.cast).layout p (Act.HandUnused l)) → p.phase ≡ 2 → (((x.cast).layout).is_late l ≡ true) × ((p.change l).output < 7)
  quiet_unused C two = elim (rests x recent p w W l b (gives_so x recent p w W l b C)) [
    | inl n ↦ absurd (n two)
    | inr d ↦ (d.0, (low x recent p w W l b (not (((x.cast).layout).by_output l)) true d.0 d.1).0)
  ]

  back_end : home_at x.cast l ≡ end_of_link x.cast (not (not (((x.cast).layout).by_output l))) l
  back_end = home_is x.cast l ∙ ap (λ (o : Bool). end_of_link x.cast o l) (sym (twice (((x.cast).layout).by_output l)))

  returned_flow : (C : CanAct (x.cast).layout p (Act.HandUnused l)) → p.phase ≡ 2 → KeepsFlow x.cast w (to x recent p w W l b C)
  returned_flow C two =
      let o : Bool = ((x.cast).layout).by_output l in
      let L = left x recent p w W l b (rests x recent p w W l b (gives_so x recent p w W l b C)) C.2 in
      let t = quiet_unused C two in
      let after : numbers_in x.cast (to x recent p w W l b C) l ≡ [] = quiet_numbers x recent (acted (x.cast).layout (Act.HandUnused l) p) (to x recent p w W l b C) (unused_world x recent p w W l b C) l b t.0 t.1 in
      let some : (seen w.headers).todo (end_of_link x.cast (not o) l) ≡ L.number ∷ L.rest = ap (λ (z : PortKey). (seen w.headers).todo z) (sym (away_is x.cast l)) ∙ L.some in
      subst (λ (z : PortKey). numbers_in x.cast (record w { headers = put z (supplied_spot (not o)) L.number cleared w.headers }) l ≡ [] → KeepsFlow x.cast w (record w { headers = put z (supplied_spot (not o)) L.number cleared w.headers })) (sym back_end)
      (unused_flow x recent p w W l b (not o) L.number (supplied_spot (not o)) L.rest some (quiet_numbers x recent p w W l b t.0 t.1)) after

  -- one of a list done goes to the other end
  over_flow : (C : CanAct (x.cast).layout p (Act.HandOver l)) → KeepsFlow x.cast w (handed_over ((side x recent p w W l (((x.cast).layout).by_output l) b).its).port w)
  over_flow C =
      let o : Bool = ((x.cast).layout).by_output l in
      let d = home_done x recent p w W l b C in
      subst (λ (u : World). KeepsFlow x.cast w u) (sym (over_is x recent p w W l b C)) (handed_flow x recent p w W l b d.0 d.1 o (ap (λ (z : PortKey). (seen w.headers).done z) (sym (home_is x.cast l)) ∙ d.2))

  back_flow : (C : CanAct (x.cast).layout p (Act.HandBack l)) (i : ℕ) → KeepsFlow x.cast w (handed_back i (a x recent p w W l C) (y x recent p w W l C) (y x recent p w W l C).state.link w)
  back_flow C i =
      let o : Bool = ((x.cast).layout).by_output l in
      let d = away_done x recent p w W l C in
      subst (λ (u : World). KeepsFlow x.cast w u) (sym (back_is x recent p w W l C i))
      (subst (λ (z : PortKey). KeepsFlow x.cast w (record w { headers = put z TodoBack d.0 unchanged w.headers })) (sym back_end)
      (handed_flow x recent p w W l b d.0 d.1 (not o) (ap (λ (z : PortKey). (seen w.headers).done z) (sym (away_is x.cast l)) ∙ d.2)))

  -- what is handed back in a tunnel is a header alone
  back_keeps : (C : CanAct (x.cast).layout p (Act.HandBack l)) (i : ℕ) → ((handed_back i (a x recent p w W l C) (y x recent p w W l C) (y x recent p w W l C).state.link w).components ≡ w.components) × ((handed_back i (a x recent p w W l C) (y x recent p w W l C) (y x recent p w W l C).state.link w).streams ≡ w.streams)
  back_keeps C i = let is = back_is x recent p w W l C i in (ap (λ (u : World). u.components) is, ap (λ (u : World). u.streams) is)

-- ---- the calls

module _ (x : PlayCast) (k : PlayContents) (recent later : ℕ) (p q : Play) (w v : World) (W : IsPlayWorld x recent p w) (H : HasPlayStreams x k p w) (V : IsPlayWorld x later q v) (same : q.phase ≡ p.phase) (l : ℕ) (h : Handle) (b : l < links_of x.cast) where
  abbrev o : Bool
  o = ((x.cast).layout).by_output l

  abbrev home : IsSide x recent p w l o
  home = side x recent p w W l o b

  home_key : ((home.its).port).key ≡ end_of_link x.cast o l
  home_key = ((home.its).end).key

  pub supply_streams : (result : Result Acted CallError) → Names x.cast w (supplier (x.cast).layout l) h → Supply w h (home_at x.cast l).port result v → HasPlayStreams x k q v
  supply_streams result N s =
      let z : Port = (home.its).port in
      let r = on_side x recent p w W l b Omx o (supplier (x.cast).layout l) (home_at x.cast l) h result v (λ i c y. Acts (supply_idle (look w) c y) result w (with_supplied y w) v) (supplier_is (x.cast).layout l) (home_is x.cast l) N s in
      elim (done_or_not (supply_idle (look w) home.component z) result w (with_supplied z w) v r) [
        | inl e ↦ world_stays x k recent later p q w v W H V same e
        | inr d ↦ headers_close x k recent later p q w v W H V same (with_supplied z w) refl refl (λ two. supplied_flow x recent p w W l b o z home_key ((home.its).end).direction) d.1
      ]

  pub release_streams : (result : Result Acted OmxError) → Names x.cast w (supplier (x.cast).layout l) h → Release w h (home_at x.cast l).port result v → HasPlayStreams x k q v
  release_streams result N s =
      let z : Port = (home.its).port in
      let r = on_side x recent p w W l b plain o (supplier (x.cast).layout l) (home_at x.cast l) h result v (λ i c y. Acts (release_idle (look w) c y) result w (front_unmade (in_port (seen w.headers) y) w) v) (supplier_is (x.cast).layout l) (home_is x.cast l) N s in
      elim (done_or_not (release_idle (look w) home.component z) result w (front_unmade (in_port (seen w.headers) z) w) v r) [
        | inl e ↦ world_stays x k recent later p q w v W H V same e
        | inr d ↦
            let C = release_can x recent p w l h result v W b N s d.0 in
            let f = unmade (in_port (seen w.headers) z) in
            headers_close x k recent later p q w v W H V same (front_unmade (in_port (seen w.headers) z) w) f.0 f.1 (released_flow x recent p w W l b C z home_key (released_world x recent p w W l b C)) d.1
      ]
    where
      unmade : (ns : List ℕ) → ((front_unmade ns w).components ≡ w.components) × ((front_unmade ns w).streams ≡ w.streams)
      unmade [] = (refl, refl)
      unmade (n ∷ ns) = (refl, refl)

  pub over_streams : (result : Result Acted OmxError) → Names x.cast w (supplier (x.cast).layout l) h → HandOver w h (home_at x.cast l).port result v → HasPlayStreams x k q v
  over_streams result N s =
      let z : Port = (home.its).port in
      let r = on_side x recent p w W l b plain o (supplier (x.cast).layout l) (home_at x.cast l) h result v (λ i c y. Acts (over_idle (look w) c y) result w (handed_over y w) v) (supplier_is (x.cast).layout l) (home_is x.cast l) N s in
      elim (done_or_not (over_idle (look w) home.component z) result w (handed_over z w) v r) [
        | inl e ↦ world_stays x k recent later p q w v W H V same e
        | inr d ↦
            let C = over_can x recent p w l h result v W b N s d.0 in
            let is = over_is x recent p w W l b C in
            headers_close x k recent later p q w v W H V same (handed_over z w) (ap (λ (u : World). u.components) is) (ap (λ (u : World). u.streams) is) (λ two. over_flow x recent p w W l b C) d.1
      ]

  abbrev away : l < links_of x.cast → IsSide x recent p w l (not o)
  away g = side x recent p w W l (not o) g

  abbrev port : l < links_of x.cast → Port
  port g = ((away g).its).port

  abbrev i : ℕ
  i = script_place x.cast (component_at (x.cast).layout (not o) l)

  pub back_streams : (result : Result Acted OmxError) → Names x.cast w (other_component (x.cast).layout l) h → HandBack w h (away_at x.cast l).port result v → HasPlayStreams x k q v
  back_streams result N s =
      elim (done_or_not (back_idle (look w) (away b).component (port b)) result w (handed_back i (away b).component (port b) (port b).state.link w) v (acts b)) [
        | inl e ↦ world_stays x k recent later p q w v W H V same e
        | inr d ↦ either (is_empty ((seen w.headers).done (away_at x.cast l)))
            (λ t.
            let C = unused_can x recent p w l h result v W b N s d.0 t in
            let is = unused_is x recent p w W l b C i in
            headers_close x k recent later p q w v W H V same (handed_back i (away b).component (port b) (port b).state.link w) (ap (λ (u : World). u.components) is) (ap (λ (u : World). u.streams) is)
            (λ two. subst (λ (u : World). KeepsFlow x.cast w u) (sym is) (returned_flow x recent p w W l b C two)) d.1)
            (λ t. of_done (back_can x recent p w l h result v W b N s d.0 t))
      ]
    where
      acts : (g : l < links_of x.cast) → Acts (back_idle (look w) (away g).component (port g)) result w (handed_back i (away g).component (port g) (port g).state.link w) v
      acts g = on_side x recent p w W l g plain (not o) (other_component (x.cast).layout l) (away_at x.cast l) h result v (λ j c y. Acts (back_idle (look w) c y) result w (handed_back j c y y.state.link w) v) (other_is (x.cast).layout l) (away_is x.cast l) N s

      of_done : (C : CanAct (x.cast).layout p (Act.HandBack l)) → HasPlayStreams x k q v
      of_done C = elim (done_or_not (back_idle (look w) (away C.0).component (port C.0)) result w (handed_back i (away C.0).component (port C.0) (port C.0).state.link w) v (acts C.0)) [
        | inl e ↦ world_stays x k recent later p q w v W H V same e
        | inr d ↦
            let f = back_keeps x recent p w W l b C i in
            headers_close x k recent later p q w v W H V same (handed_back i (away C.0).component (port C.0) (port C.0).state.link w) f.0 f.1 (λ two. back_flow x recent p w W l b C i) d.1
      ]
