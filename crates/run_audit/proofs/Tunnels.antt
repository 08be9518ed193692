-- Once the acts of a change that are left were tried, each late source's link has its tunnel.
use Rattle.std.proofs.Common.{◌≡◌, ◌⊎◌, inl, inr, ℕ, zero, suc, ◌+◌, ◌<◌, ◌≤◌, Bool, true, false, List, [], ◌∷◌, ◌++◌, length, slice_get, Option, Some, None, refl, sym, ◌∙◌, ap, subst, length-append, arith}
use Rattle.std.proofs.lemmas.Bool.{cases_lt}
use Rattle.std.proofs.lemmas.Grind.{common_steps}
use Rattle.omx_types.specs.declared.handle.Handle.{Handle}
use Rattle.il_machine.specs.declared.answer.Progress.{Progress}
use Rattle.il_machine.specs.Acts.{Act, Reply}
use Rattle.il_machine.specs.World.{World}
use Rattle.machine_laws.proofs.Every.{push_last_there, push_there}
use Rattle.act_text.specs.declared.act.TextAct.{TextAct}
use Rattle.act_text.specs.declared.act.TextAct.TheVariants as lines
use Rattle.play_build_laws.specs.Stages.{IsStage, Joining}
use Rattle.play_forms.specs.Plans.{PlanValue}
use Rattle.play_model.specs.Play.{Play}
use Rattle.play_world_laws.specs.Changing.{is_joined_at}
use Rattle.play_world_laws.specs.PlayWorlds.{PlayCast}
use Rattle.play_plan_laws.specs.Assemblies.{IsReady, PlayFiles, assembly_of, is_late_link, play_cast_of}
use Rattle.play_log.specs.Scenes.{HaveOwnNames}
use Rattle.play_log.proofs.Players.{some_same}
use Rattle.play_result_laws.specs.Asked.{told_by}
use Rattle.play_history_laws.specs.Following.{Follows}
use Rattle.play_history_laws.specs.Order.{Cursor}
use Rattle.play_history_laws.proofs.Askings.{come}
use Rattle.play_graph.specs.Stops.{HaveTunnels}
use Rattle.audit_order.specs.declared.ends.LinkEnds.{LinkEnds}
use Rattle.audit_order.specs.declared.order.Change.{Change}
use Rattle.audit_order.specs.Asked.{change_act, is_asked}
use Rattle.audit_order.specs.Steps.{Admits, OrderValue, is_begun, is_changing}
use Rattle.audit_forms.specs.Audited.{Case, ComesNext}
use Rattle.audit_laws.proofs.Likeness.{IsLike, IsLikeChange, IsLinkOf, IsWhole, left_some, not_sending}
use Rattle.audit_laws.proofs.Links.{ends_of, giver, one_link}
use Rattle.audit_laws.proofs.Told.{AreTold}
use Rattle.run_audit.specs.Leading.{IsReturn, IsSince}
use Rattle.run_audit.specs.Leaving.{AreTried, IsTried, rejoining}
use Rattle.run_audit.proofs.Way.{IsOn, admitted_there, asked_on, case, history, link_so}

-- ---- the acts that set a link's ends and its tunnel up

abbrev IsSetting : TextAct → Type 0
IsSetting (lines.SetPort port format count size) = Unit {0}
IsSetting (lines.Tunnel first second) = Unit {0}
IsSetting other = ⊥

setting_made : (e : LinkEnds) (n : ℕ) → IsSetting (change_act e n) → (3 ≤ n) × (n ≤ 5)
setting_made e zero s = absurd s
setting_made e (suc zero) s = absurd s
setting_made e (suc (suc zero)) s = absurd s
setting_made e (suc (suc (suc zero))) s = (omega arith, omega arith)
setting_made e (suc (suc (suc (suc zero)))) s = (omega arith, omega arith)
setting_made e (suc (suc (suc (suc (suc zero))))) s = (omega arith, omega arith)
setting_made e (suc (suc (suc (suc (suc (suc zero)))))) s = absurd s
setting_made e (suc (suc (suc (suc (suc (suc (suc n))))))) s = absurd s

setting_asked : (t : TextAct) → IsSetting t → is_asked t ≡ true
setting_asked (lines.SetPort port format count size) s = refl
setting_asked (lines.Tunnel first second) s = refl
setting_asked _ s = absurd s

setting_stays : (t : TextAct) → IsSetting t → IsReturn t → ⊥
setting_stays (lines.SetPort port format count size) s r = r
setting_stays (lines.Tunnel first second) s r = r
setting_stays _ s r = absurd s

-- such an act goes on with a change, whatever was told
record IsGoingOn (plan : PlanValue) (x : OrderValue) (t : TextAct) (y : OrderValue) : Type 0 where
  change : Change
  last : x.change ≡ Some change
  low : 3 ≤ change.made
  high : change.made ≤ 5
  then : y.change ≡ Some (record { source = change.source; made = change.made + 1 })
  by : (told : List Progress) → Admits plan told x t y

setting_on : (plan : PlanValue) (told : List Progress) (x : OrderValue) (t : TextAct) (y : OrderValue) → IsSetting t → Admits plan told x t y → IsGoingOn plan x t y
setting_on plan told x t y s (inl H) = absurd (subst IsSetting H.is s)
setting_on plan told x t y s (inr (inl H)) =
    let b = setting_made H.ends (H.change).made (subst IsSetting H.is s) in
    record {
      change = H.change;
      last = H.last;
      low = b.0;
      high = b.1;
      then = ap (λ (o : OrderValue). o.change) H.goes_on;
      by = λ other. inr (inl (record {
        sent = H.sent;
        change = H.change;
        last = H.last;
        changing = H.changing;
        ends = H.ends;
        link = H.link;
        disabled = λ two. absurd (let low = b.0 in omega (arith, low, two));
        is = H.is;
        goes_on = H.goes_on;
      }));
    }
setting_on plan told x t y s (inr (inr (inl H))) = absurd (subst IsSetting (H.may).is s)
setting_on plan told x t y s (inr (inr (inr H))) = absurd (subst IsSetting H.is s)

-- ---- what was told by the steps, as a list

tolds : (steps : List (Act × Reply)) → ℕ → List Progress
tolds steps zero = []
tolds steps (suc n) = tolds steps n ++ told_by n steps ∷ []

tolds_many : (steps : List (Act × Reply)) (n : ℕ) → length (tolds steps n) ≡ n
unfolding tolds
tolds_many steps zero = refl
tolds_many steps (suc n) = (let r = tolds_many steps n in let a = length-append (tolds steps n) (told_by n steps ∷ []) in omega (arith, r, a))

tolds_each : (steps : List (Act × Reply)) (n place : ℕ) → place < n → slice_get (tolds steps n) place ≡ Some (told_by place steps)
unfolding tolds
tolds_each steps zero place b = absurd (omega (arith, b))
tolds_each steps (suc n) place b = elim (cases_lt place n) [
  | inl lt ↦ push_there (tolds steps n) place (told_by n steps) (told_by place steps) (tolds_each steps n place lt)
  | inr le ↦
      let same : place ≡ n = omega (arith, b, le) in
      let m = tolds_many steps n in
      ap (λ (k : ℕ). slice_get (tolds steps n ++ told_by n steps ∷ []) k) (same ∙ sym m) ∙ (push_last_there (tolds steps n) (told_by n steps) ∙ ap (λ (k : ℕ). Some (told_by k steps)) (sym same))
]

are_told : (steps : List (Act × Reply)) (n : ℕ) → AreTold n (tolds steps n) steps
are_told steps n = record { many_are = tolds_many steps n; each = tolds_each steps n }

-- ---- a step of a change by which the tunnel is there

joined_low : (n : ℕ) → n ≤ 4 → is_joined_at n ≡ true
joined_low n b = grind (arith, common_steps, b)

joined_high : (n : ℕ) → 8 ≤ n → is_joined_at n ≡ true
joined_high n b = grind (arith, common_steps, b)

-- of the link the tunnel isn't down, where its change is the last one
abbrev pub IsUpTo : ℕ → PlanValue → ℕ → OrderValue → Type 0
IsUpTo n plan l x = (ch : Change) → x.change ≡ Some ch → giver plan l ≡ ch.source → 3 ≤ ch.made → ch.made < n → ⊥

module _ (plan : PlanValue) (files : PlayFiles) (handles : List Handle) (w : World) (ready : IsReady plan files) (stage : IsStage (assembly_of plan files) (Joining (length plan.joints)) handles w) (own : HaveOwnNames plan.parts) (sinks : ℕ → Option (List ℕ)) (told : List Progress) where
  abbrev c : PlayCast
  c = play_cast_of plan

  abbrev x : Case
  x = case plan files handles w ready stage own sinks

  abbrev On : OrderValue → World → Type 0
  On order v = IsOn plan files handles w ready stage own order v

  tried_on : (t : TextAct) (order next : OrderValue) (v u : World) → IsSetting t → (O : On order v) → IsTried plan told x t order v next u → On next u
  tried_on t order next v u s O (inl (none, e, f)) = subst (λ (y : World). On next y) (sym f) (subst (λ (z : OrderValue). On z v) (sym e) O)
  tried_on t order next v u s O (inr (inl C, S)) = (let a = setting_asked t s in let z : false ≡ true = sym C.0 ∙ a in absurd cc)
  tried_on t order next v u s O (inr (inr C, S)) = made S
    where
      G : IsGoingOn plan order t next
      G = setting_on plan told order t next s C.1

      made : IsSince x t v u → On next u
      made (inl M) = asked_on plan files handles w ready stage own order next v u t M.act M.reply O (tolds O.steps (length plan.parts)) (are_told O.steps (length plan.parts)) (G.by (tolds O.steps (length plan.parts))) M.says M.meets M.step
      made (inr (e, inl none)) = (let y = admitted_there plan files handles w ready stage own told order O.cursor O.like t next C.1 in absurd (none y.0 y.1))
      made (inr (e, inr r)) = absurd (setting_stays t s r)

  -- ---- one try

  -- where the change of the link stands there, the act comes next
  comes_next : (l n : ℕ) (order : OrderValue) (k : Cursor) → IsLike plan order k → l < length plan.joints → is_late_link plan l ≡ true → (ch : Change) → order.change ≡ Some ch → giver plan l ≡ ch.source → ch.made ≡ n → 3 ≤ n → n ≤ 5
      → is_asked (change_act (ends_of plan l) n) ≡ true → (y : OrderValue) × ComesNext plan told order (change_act (ends_of plan l) n) y
  comes_next l n order k L b late ch e g m low high asked =
      let I : IsLinkOf plan order k ch = subst (λ (o : Option Change). IsLikeChange plan order k o) e L.change in
      let few = I.few in
      let same : I.link ≡ l = one_link plan files ready I.link l I.below b late (I.gives ∙ sym g) in
      let next : OrderValue = record order { change = Some (record { source = ch.source; made = ch.made + 1 }) } in (
        next,
        inr (
          asked,
          inr (inl (record {
            sent = not_sending plan order k L I.all;
            change = ch;
            last = e;
            changing = ap is_changing e ∙ left_some ch (omega (arith, m, high));
            ends = ends_of plan l;
            link = link_so plan files handles w ready stage own order k ch I ∙ ap (λ (i : ℕ). Some (ends_of plan i)) same;
            disabled = λ two. absurd (omega (arith, two, m, low));
            is = ap (change_act (ends_of plan l)) (sym m);
            goes_on = refl;
          })),
        ),
      )

  same_change : (a b : Change) → Some a ≡ Some b → a ≡ b
  same_change a b e = cc

  up_more : (l n : ℕ) (order next : OrderValue) (v u : World) (O : On order v) → l < length plan.joints → is_late_link plan l ≡ true → 3 ≤ n → n ≤ 5 → IsSetting (change_act (ends_of plan l) n)
      → IsTried plan told x (change_act (ends_of plan l) n) order v next u → IsUpTo n plan l order → IsUpTo (n + 1) plan l next
  up_more l n order next v u O b late low high s (inl (none, e, f)) U ch is gives some few = elim (cases_lt ch.made n) [
    | inl lt ↦ U ch (sym (ap (λ (z : OrderValue). z.change) e) ∙ is) gives some lt
    | inr le ↦
        let m : ch.made ≡ n = omega (arith, few, le) in
        let y = comes_next l n order O.cursor O.like b late ch (sym (ap (λ (z : OrderValue). z.change) e) ∙ is) gives m low high (setting_asked (change_act (ends_of plan l) n) s) in
        none y.0 y.1
  ]
  up_more l n order next v u O b late low high s (inr (inl C, S)) U ch is gives some few =
      (let a = setting_asked (change_act (ends_of plan l) n) s in let z : false ≡ true = sym C.0 ∙ a in absurd cc)
  up_more l n order next v u O b late low high s (inr (inr C, S)) U ch is gives some few =
      let G = setting_on plan told order (change_act (ends_of plan l) n) next s C.1 in
      let q : ch ≡ record { source = (G.change).source; made = (G.change).made + 1 } = same_change ch _ (sym is ∙ G.then) in
      let m : ch.made ≡ (G.change).made + 1 = ap (λ (y : Change). y.made) q in
      let source : ch.source ≡ (G.change).source = ap (λ (y : Change). y.source) q in
      let g = G.low in
      U G.change G.last (gives ∙ source) G.low (omega (arith, m, few))

  -- another link's tunnel stays up
  up_still : (l : ℕ) (t : TextAct) (order next : OrderValue) (v u : World) → IsSetting t → IsTried plan told x t order v next u → IsUpTo 6 plan l order → IsUpTo 6 plan l next
  up_still l t order next v u s (inl (none, e, f)) U ch is gives some few = U ch (sym (ap (λ (z : OrderValue). z.change) e) ∙ is) gives some few
  up_still l t order next v u s (inr (inl C, S)) U ch is gives some few = (let a = setting_asked t s in let z : false ≡ true = sym C.0 ∙ a in absurd cc)
  up_still l t order next v u s (inr (inr C, S)) U ch is gives some few =
      let G = setting_on plan told order t next s C.1 in
      let q : ch ≡ record { source = (G.change).source; made = (G.change).made + 1 } = same_change ch _ (sym is ∙ G.then) in
      let m : ch.made ≡ (G.change).made + 1 = ap (λ (y : Change). y.made) q in
      let source : ch.source ≡ (G.change).source = ap (λ (y : Change). y.source) q in
      U G.change G.last (gives ∙ source) G.low (omega (arith, m, few))

  -- ---- the three acts of a link

  pub record IsRejoined (l : ℕ) (order next : OrderValue) (u : World) : Type 0 where
    pub on : On next u
    pub its : l < length plan.joints → is_late_link plan l ≡ true → IsUpTo 6 plan l next
    pub others : (other : ℕ) → IsUpTo 6 plan other order → IsUpTo 6 plan other next

  pub rejoined : (l : ℕ) (order next : OrderValue) (v u : World) → On order v → AreTried plan told x (rejoining (Some (ends_of plan l))) order v next u → IsRejoined l order next u
  rejoined l order next v u O (o1, v1, T1, (o2, v2, T2, (o3, v3, T3, (e, f)))) =
      let E : LinkEnds = ends_of plan l in
      let O1 = tried_on (change_act E 3) order o1 v v1 tt O T1 in
      let O2 = tried_on (change_act E 4) o1 o2 v1 v2 tt O1 T2 in
      let O3 = tried_on (change_act E 5) o2 o3 v2 v3 tt O2 T3 in
      record {
        on = subst (λ (y : World). On next y) (sym f) (subst (λ (z : OrderValue). On z v3) (sym e) O3);
        its = λ b late. subst (λ (z : OrderValue). IsUpTo 6 plan l z) (sym e)
            (up_more l 5 o2 o3 v2 v3 O2 b late (omega arith) (omega arith) tt T3
            (up_more l 4 o1 o2 v1 v2 O1 b late (omega arith) (omega arith) tt T2
            (up_more l 3 order o1 v v1 O b late (omega arith) (omega arith) tt T1 (λ ch is gives some few. omega (arith, some, few)))));
        others = λ other U. subst (λ (z : OrderValue). IsUpTo 6 plan other z) (sym e)
            (up_still other (change_act E 5) o2 o3 v2 v3 tt T3 (up_still other (change_act E 4) o1 o2 v1 v2 tt T2 (up_still other (change_act E 3) order o1 v v1 tt T1 U)));
      }

  -- ---- all tunnels are up

  pub all_up : (order : OrderValue) (v : World) (O : On order v) → ((l : ℕ) → l < length plan.joints → is_late_link plan l ≡ true → IsUpTo 6 plan l order)
      → HaveTunnels c (come plan files handles w O.steps O.cursor v (history plan files handles w ready stage own order v O)).now
  all_up order v O U l b late = by (is_begun order.changed (giver plan l)) refl
    where
      L : IsLike plan order O.cursor
      L = O.like

      now : Play
      now = (come plan files handles w O.steps O.cursor v (history plan files handles w ready stage own order v O)).now

      F : Follows c.cast O.cursor (come plan files handles w O.steps O.cursor v (history plan files handles w ready stage own order v O)).recent now
      F = (((((come plan files handles w O.steps O.cursor v (history plan files handles w ready stage own order v O)).faulty).taken).played).follows)

      low : (O.cursor).made l ≡ 0 → is_joined_at (now.change l).step ≡ true
      low z = joined_low (now.change l).step (let s = F.few l b late z in omega (arith, s))

      more : 1 ≤ (O.cursor).made l → ((O.cursor).made l ≤ 2) ⊎ (6 ≤ (O.cursor).made l) → is_joined_at (now.change l).step ≡ true
      more some (inl few) = joined_low (now.change l).step (let s = F.some l b late some in omega (arith, s, few))
      more some (inr lots) = joined_high (now.change l).step (let s = F.some l b late some in omega (arith, s, lots))

      changed : (o : Option Change) → order.change ≡ o → IsLikeChange plan order O.cursor o → (O.cursor).changing ≡ Some l → is_joined_at (now.change l).step ≡ true
      changed None e C q = (let z : None ≡ Some l = sym C ∙ q in absurd cc)
      changed (Some ch) e I q =
          let same : I.link ≡ l = some_same I.link l (sym I.its ∙ q) in
          let m : (O.cursor).made l ≡ ch.made = sym (ap (O.cursor).made same) ∙ I.made in
          let gives : giver plan l ≡ ch.source = sym (ap (giver plan) same) ∙ I.gives in
          let some = I.some in
          more (omega (arith, m, some)) (elim (cases_lt ch.made 3) [
            | inl few ↦ inl (omega (arith, m, few))
            | inr low ↦ elim (cases_lt ch.made 6) [
              | inl high ↦ absurd (U l b late ch e gives low high)
              | inr lots ↦ inr (omega (arith, m, lots))
            ]
          ])

      begun : IsWhole O.cursor l → is_joined_at (now.change l).step ≡ true
      begun (inl eight) = more (omega (arith, eight)) (inr (omega (arith, eight)))
      begun (inr (q, some)) = changed order.change refl L.change q

      by : (t : Bool) → is_begun order.changed (giver plan l) ≡ t → is_joined_at (now.change l).step ≡ true
      by true e = begun (L.begun l b late e)
      by false e = low (L.unbegun l b late e)
