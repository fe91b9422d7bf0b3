use Rattle.std.proofs.Common.{Err, sym, refl, ap, ◌∙◌, subst, arith}
use Rattle.std.proofs.lemmas.Result.{err_from_is_err_and}
use Rattle.row.specs.Numbered.{numbered}
use Rattle.calls.specs.Theorem.{Begun}
use Rattle.repair.specs.TwoClass.{two_class}
use Rattle.repair.specs.Promise.{MakeDone, of_engine}
use Rattle.repair.proofs.Makings.{unfit, make_ok, make_err, accepted, small, blanked, wide_field}
use Rattle.repair.proofs.make.Goals as goal

pub returns-in_err-parameters : goal.returns-in_err-parameters
returns-in_err-parameters g c =
    let o = g.F.Field.ops in
    let symbol = numbered o.zero g.F.NumberedField.symbol in
    let size = g.F.NumberedField.size in
    let m = g.S.Store.meaning c.args.store.now in
    let p = err_from_is_err_and c.from_residual.result c.from_residual.ensures.1 in
    let a = c.args.proposed in
    subst (λ r. MakeDone o symbol size a.k a.a a.tau a.b m r m) (sym (p.1 ∙ ap Err p.2)) (unfit size a.k a.a a.tau a.b m _ c.in_err-parameters.ensures, refl)

pub returns-in_err-engine : goal.returns-in_err-engine
returns-in_err-engine g c =
    let o = g.F.Field.ops in
    let symbol = numbered o.zero g.F.NumberedField.symbol in
    let size = g.F.NumberedField.size in
    let m = g.S.Store.meaning c.args.store.now in
    let a = c.args.proposed in
    let p = c.in_ok-parameters.parameters in
    let f = c.in_ok-parameters.ensures in
    let t = c.in_err-engine.ensures in
    let w = make_err size (two_class o symbol p) m (record { code = record { parameters = p } }) c.in_err-engine.field-0.0 t.answer (wide_field o symbol size a.k a.a a.tau a.b m p f.1 f.2 f.4 f.0) in
    let r = err_from_is_err_and c.from_residual-in_err-engine.result c.from_residual-in_err-engine.ensures.1 in
    subst (λ q. MakeDone o symbol size a.k a.a a.tau a.b m q (g.S.Store.meaning c.make.new.store)) (sym (r.1 ∙ ap Err (r.2 ∙ ap of_engine w.0))) (small o symbol size a.k a.a a.tau a.b m p f.1 f.2 f.4 f.0 w.1, t.leaves ∙ w.2)

pub returns : goal.returns
returns g c =
    let o = g.F.Field.ops in
    let symbol = numbered o.zero g.F.NumberedField.symbol in
    let size = g.F.NumberedField.size in
    let m = g.S.Store.meaning c.args.store.now in
    let m' = g.S.Store.meaning c.make.new.store in
    let a = c.args.proposed in
    let p = c.in_ok-parameters.parameters in
    let f = c.in_ok-parameters.ensures in
    let t = c.in_ok-engine.ensures in
    let w = make_ok size (two_class o symbol p) m (record { code = record { parameters = p } }) c.in_ok-engine.engine t.answer in
    let q = ap (λ x. x.code.parameters) w.0 in
    record {
      passed = accepted o symbol size a.k a.a a.tau a.b m p f.1 f.2 f.4 f.0 w.1;
      nodes = omega (arith, c.nodes.ensures, f.1, f.2, f.4);
      data_nodes = ap (λ x. x.k) q ∙ f.1;
      class_a = ap (λ x. x.a) q ∙ f.2;
      piggybacks = ap (λ x. x.tau) q ∙ f.3;
      class_b = ap (λ x. x.b) q ∙ f.4;
      leaves = t.leaves ∙ w.2 ∙ blanked o symbol size a.k a.a a.tau a.b m p f.1 f.2 f.4 f.0;
      begun = subst (λ x. Begun o size (two_class o symbol x) m m') (sym q) t.begun;
    }
