use Rattle.std.proofs.Common.{vec_items}
use Rattle.desk.specs.declared.state.State.TheVariants.{DecimalBank, DecimalImage, ByteBank, ByteImage}
use Rattle.desk.proofs.Continuing.{continues}
use Rattle.desk.proofs.answering.answer_in.Goals as goal

pub returns-in-DecimalBank : goal.returns-in-DecimalBank
returns-in-DecimalBank c =
    let o = c.answer_on in
    continues _ DecimalBank o.result (vec_items c.args.out.now) (vec_items o.new.out) c.args.state.now c.args.request c.in-DecimalBank.machine o.new.machine c.in-DecimalBank.is (λ bytes p. p) o.ensures

pub returns-in-DecimalImage : goal.returns-in-DecimalImage
returns-in-DecimalImage c =
    let o = c.answer_on-in-DecimalImage in
    continues _ DecimalImage o.result (vec_items c.args.out.now) (vec_items o.new.out) c.args.state.now c.args.request c.in-DecimalImage.machine o.new.machine c.in-DecimalImage.is (λ bytes p. p) o.ensures

pub returns-in-ByteBank : goal.returns-in-ByteBank
returns-in-ByteBank c =
    let o = c.answer_on-in-ByteBank in
    continues _ ByteBank o.result (vec_items c.args.out.now) (vec_items o.new.out) c.args.state.now c.args.request c.in-ByteBank.machine o.new.machine c.in-ByteBank.is (λ bytes p. p) o.ensures

pub returns-in-ByteImage : goal.returns-in-ByteImage
returns-in-ByteImage c =
    let o = c.answer_on-in-ByteImage in
    continues _ ByteImage o.result (vec_items c.args.out.now) (vec_items o.new.out) c.args.state.now c.args.request c.in-ByteImage.machine o.new.machine c.in-ByteImage.is (λ bytes p. p) o.ensures
