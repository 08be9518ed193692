-- `lend` parts the bytes of one block from the others. Assumes `Logic`.
use Rattle.std.proofs.Common.{◌≡◌, ◌+◌, ◌*◌, ◌≤◌, true, false, List, [], ◌∷◌, ◌++◌, length, refl, sym}
use seplogic.Ra.Ura.{Ura}
use mir.Syntax.{Fn}
use mir.Val.{Val}
use base.Logic.{SProp, ent, id⊢}
use prog.Memory.{Memory}
use prog.Routine.{Routine}
use prog.Wp.{Calls, Loops, WpFn, Tables}
use contract.Monad.{Fun, fact}
use contract.Running.{tables, tables_of}
use sound.WpLaws.{WpFn-mono}
use types.Logic.{Logic}
use types.Kit.{‵, raw, ◌⊛◌, later, prop, ◌$◌, ◌∵◌, !, qed, move, drop, use1, use2, split, fsplit, fjoin, fpick, feq_l, regoal, rewrite, suffices, await, done}
use types.Part.{agg}
use types.Run.{enter, returns, and_then, no_more}
use types.ByLocal.{alloc_all, pass_all, free_all, look_at, get, sets}
use denote.Exit.{yes}
use denote.RattleType.{owns}
use denote.RawPtr.{block_ptr}
use denote.Signature.{plain, types_at}
use denote.Steps.{nothing, heard}
use denote.Struct.Tuple.{Tuple}
use denote.Triple.Clauses.{Clauses, Ended, closing}
use denote.Triple.Entry.{alive}
use denote.Triple.Spec.{Meets, triple_of}
use denote.Triple.Table.{entered}
use denote.Triple.Walked.{says, Stays, stay_dropped, walk_of, ends_at, walk_Meets}
use Rattle.std.proofs.alloc.Calls.{Goes-blank}
use Rattle.block_region.proofs.Walks.{none, two, none_made, two_made, none_had}
use Rattle.block_region.proofs.Entries.{length-marked, one_less, Lent, lend, as_run}
use Rattle.block_region.specs.Regions.{RegionKey, marked}
use Rattle.block_region.specs.Ownership.{run_owns, ticket}
use Rattle.block_region.specs.contracts.memory.Run as Run
use Rattle.block_region.specs.contracts.roster.Roster as Roster
use Rattle.block_region.specs.contracts.roster.Ticket as Ticket
use Rattle.block_region.specs.contracts.roster.Roster.lend as F
use Rattle.block_region.specs.contracts.roster.Roster.lend.Key.{name as #self}
use Rattle.block_region.proofs.roster.Roster.lend.Statement as stated
use Rattle.block_region.proofs.roster.Roster.lend.Code as code

abbrev function : Fn
function = code.function

abbrev ended : Ended
ended = F.ended

abbrev stayed : Stays ended.signature.params ended.kept
stayed = (stay_dropped (plain (λ _. Roster.the_row)) yes, (stay_dropped (plain (λ _. Ticket.the_row)) yes, tt))

module _ {M : Type 1} {𝓤 : Ura M} (𝓛 : Logic 𝓤) (at_mem : Memory → SProp 𝓤) (run : Routine → Fun 𝓤) where
  open 𝓛 use {H}

  abbrev held : Clauses 𝓤 ended
  held = F.clauses 𝓛 at_mem run

  module _ (C : Calls 𝓤 H) (Λ : Loops 𝓤 H) (z : (walk_of 𝓛 ended stayed held).Ghost) where
    abbrev Post : Val → SProp 𝓤
    Post = (walk_of 𝓛 ended stayed held).post z

    abbrev toks : SProp 𝓤
    toks = alive 𝓛 ended.signature z.0.0 z.0.1

    walks : ent 𝓤 ((walk_of 𝓛 ended stayed held).pre z) (WpFn 𝓤 H C Λ function ((walk_of 𝓛 ended stayed held).args z) Post)
    walks =
        let a = z.0.3 in
        let vss = z.0.4 in
        let k = a.0.key in
        let t = a.1.0 in
        let gs = k.names in
        let b = k.object in
        let o = k.start in
        let i = t.number in
        let p = o + i * k.size in
        let hs = a.0.home in
        let Asked = (t.key ≡ k) × (t.home ≡ true) × (i + 1 ≤ length hs) in
        let off : (Ticket.the_row).Denot = record t { home = false } in
        qed 𝓛 ((raw toks ⊛ ‵ (owns (types_at ended.signature.params z.0.0) a vss)) ∷ raw (fact 𝓤 Asked) ∷ []) ∵
        move ! (1 ∷ []) $ heard ! Asked (λ asked. split ! $ move ! (1 ∷ []) $
        fsplit ! $ fsplit ! $ none_had ! vss.0 (λ is₀. move ! (1 ∷ []) $ fsplit ! $ fsplit ! $ none_had ! vss.1.0 (λ is₁. move ! (1 ∷ []) $ drop ! $
        regoal ! (λ (us : List Val). prop (WpFn 𝓤 H C Λ function (us ++ (vss.1.0 ++ [])) Post)) is₀ refl $
        regoal ! (λ (us : List Val). prop (WpFn 𝓤 H C Λ function ((none ∷ []) ++ (us ++ [])) Post)) is₁ refl $
        enter ! C Λ function (none ∷ none ∷ []) Post $ alloc_all ! (λ l. pass_all ! refl ((tt, tt), ((tt, tt), tt)) $
        sets ! (agg ! (no_more !)) refl (tt, tt) $
        sets ! (agg ! (no_more !)) refl (tt, tt) $
        sets ! (agg ! (no_more !)) refl (tt, tt) $
        sets ! (agg ! (and_then ! (get ! refl) (and_then ! (get ! refl) (no_more !)))) refl (tt, (tt, (tt, tt))) $
        sets ! (agg ! (and_then ! (get ! refl) (and_then ! (get ! refl) (no_more !)))) refl (tt, (tt, ((tt, (tt, tt)), tt))) $
        -- [the ticket; the bytes at home; the tokens; ..]
        rewrite ! 0 (λ (j : RegionKey). ‵ (ticket j.names i t.home)) asked.0 refl $ rewrite ! 0 (λ h. ‵ (ticket gs i h)) asked.1 refl $
        move ! (1 ∷ []) $ use2 𝓛 (later (‵ (Lent 𝓛 k.size b gs hs i o p))) (lend 𝓛 k.size b gs hs i o p refl asked.2) $ await ! tt $ fsplit ! $ feq_l ! (λ was. fsplit ! $
        let left : (Roster.the_row).Denot = record { key = k; home = marked hs i false } in
        none_made ! $ fjoin ! $ move ! (1 ∷ []) $ fsplit ! $ rewrite ! 0 (λ (j : RegionKey). ‵ (ticket j.names i false)) (sym asked.0) refl $ none_made ! $ fjoin ! $
        move ! (1 ∷ []) $ fpick ! (λ xs. fsplit ! $ feq_l ! (λ long.
        let r : (Run.the_row).Denot = record { ptr = block_ptr b p; items = xs } in
        use1 𝓛 (‵ (run_owns (block_ptr b p) xs)) (as_run 𝓛 xs b p) $ none_made ! $ fjoin ! $ move ! (1 ∷ 0 ∷ []) $
        two_made ! Ticket.the_row Run.the_row off r none none $
        use1 𝓛 (‵ ((Tuple (Ticket.the_row ∷ Run.the_row ∷ [])).own_val (off, r) (two none none ∷ []))) (id⊢ 𝓤 _) $ move ! (1 ∷ 0 ∷ []) $
        two_made ! Roster.the_row (Tuple (Ticket.the_row ∷ Run.the_row ∷ [])) left (off, r) none (two none none) $
        returns ! (look_at ! 0 refl) $ free_all ! refl $
        suffices ! _ (ends_at 𝓛 ended stayed held z (two none (two none none)) (left, (off, r)) (tt, (tt, tt)) (tt, (tt, tt))) $ says ! (refl, was, refl, one_less hs i was, length-marked hs i false, refl, refl, long) $
        nothing ! $ nothing ! $ fjoin ! $ nothing ! $ fjoin ! $ move ! (2 ∷ 0 ∷ 1 ∷ []) $ done !)))))))

  meets : (𝓣 : Tables 𝓤 H) → Meets 𝓛 ended.signature (WpFn 𝓤 H 𝓣.C 𝓣.Λ function) (closing 𝓛 ended held)
  meets 𝓣 =
      walk_Meets 𝓛 ended stayed (Goes-blank 𝓛 0 (plain (λ _. Roster.the_row)) yes (λ κs x f. tt), (Goes-blank 𝓛 0 (plain (λ _. Ticket.the_row)) yes (λ κs x f. tt), tt)) held
      (WpFn 𝓤 H 𝓣.C 𝓣.Λ function) (WpFn-mono 𝓤 H 𝓛.laws 𝓣 function) (walks 𝓣.C 𝓣.Λ)

pub lend_spec : {M : Type 1} → stated.statement M
unfolding tables_of
lend_spec 𝓤 𝓛 𝓜 𝓡 wired =
    let 𝓣 : Tables 𝓤 𝓛.H = tables_of 𝓤 𝓛.H 𝓜 (tables 𝓤 𝓛.H 𝓜 𝓡 𝓡.env) in
    entered 𝓤 𝓛.H (triple_of 𝓛 ended.signature (closing 𝓛 ended (held 𝓛 𝓜.mem 𝓡.returns))) 𝓣.C 𝓣.Λ #self function
    (code.unfolded 𝓤 𝓛.H 𝓜 𝓡 wired) (meets 𝓛 𝓜.mem 𝓡.returns 𝓣)
