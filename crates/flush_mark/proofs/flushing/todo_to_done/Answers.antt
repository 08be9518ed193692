use Rattle.std.proofs.Common.{◌≡◌, true, ◌∷◌, drop, sym, ◌∙◌, ap, subst}
use Rattle.il_machine.specs.declared.header.Spot.TheVariants.{DoneBack}
use Rattle.il_machine.specs.Headers.{put_all, unloaded, input_reset}
use Rattle.il_machine.specs.World.{Load}
use Rattle.il_machine.specs.Buffers.{load_in}
use Rattle.il_machine.specs.Stock.{Stocked, pushed, todo_pulled}
use Rattle.header_core.specs.BufferHeader.{BufferHeader}
use Rattle.port_stock.specs.Kept.{stocked}
use Rattle.flush_mark.proofs.ResetSteps.{Begun, begun_todo, front_is, todo_step}
use Rattle.flush_mark.proofs.flushing.todo_to_done.Goals as goal

pub loop-header-init : goal.loop-header-init
loop-header-init c =
    let key = c.args.key in
    let s = stocked c.args.stock.now in
    subst (λ (t : Stocked). Begun (input_reset key) (put_all key DoneBack (t.headers.todo key)) s t) (sym c.clear_done.ensures) (begun_todo s key)

pub loop-header-preserved : goal.loop-header-preserved
loop-header-preserved c =
    let key = c.args.key in
    let s = stocked c.loop-header.stock in
    let n = c.in-Some.header.held.number in
    let load : Load = load_in c.in-Some.header.held in
    let e : s.headers.todo key ≡ n ∷ drop 1 (s.headers.todo key) = front_is (s.headers.todo key) n c.in-Some.ensures.front in
    let p : stocked c.push_header.new.self ≡ pushed key DoneBack n (unloaded load) (todo_pulled key s) = c.push_header.ensures
    ∙ (ap (λ (h : BufferHeader). pushed key DoneBack h.held.number (load_in h.held) (stocked c.pull_todo.new.self)) c.clear.ensures ∙ ap (pushed key DoneBack n (unloaded load)) c.pull_todo.ensures.stock) in
    subst (λ (t : Stocked). Begun (input_reset key) (put_all key DoneBack (t.headers.todo key)) (stocked c.args.stock.now) t) (sym p)
    (todo_step (input_reset key) (stocked c.args.stock.now) s key n (drop 1 (s.headers.todo key)) load e c.in-Some.ensures.was.1 c.loop-header.invariant)
