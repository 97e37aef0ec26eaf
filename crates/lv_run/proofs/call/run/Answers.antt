use Rattle.lv_run.proofs.CallLemmas as Lemmas
use Rattle.lv_run.proofs.HeadlineLemmas.{chain_headline, headline, reason_delivered}
use Rattle.lv_command.specs.declared.mode.TextMode.TheVariants.{Prove}
use Rattle.lv_run.specs.Answers.{OneSystem}
use Rattle.lv_run.proofs.call.run.Goals as goal

pub returns-clause-headline : goal.returns-clause-headline
returns-clause-headline g c = λ b. headline c.args.words.now (g.S.Source.left c.args.source.now) c.compose.result.detail c.deliver.result.detail c.compose.result.out (g.O.Sink.written c.args.out.now) (g.O.Sink.written c.deliver.new.out) (g.E.Sink.written c.args.err.now) (g.E.Sink.written c.deliver.new.err) c.compose.ensures.texts c.deliver.ensures.delivered b

pub returns-clause-reason : goal.returns-clause-reason
returns-clause-reason g c = reason_delivered c.args.words.now (g.S.Source.left c.args.source.now) c.compose.result.detail c.deliver.result.detail c.compose.result.out (g.O.Sink.written c.args.out.now) (g.O.Sink.written c.deliver.new.out) (g.E.Sink.written c.args.err.now) (g.E.Sink.written c.deliver.new.err) c.compose.ensures.texts c.deliver.ensures.delivered

pub returns-clause-chain : goal.returns-clause-chain
returns-clause-chain g c =
    let why = reason_delivered c.args.words.now (g.S.Source.left c.args.source.now) c.compose.result.detail c.deliver.result.detail c.compose.result.out (g.O.Sink.written c.args.out.now) (g.O.Sink.written c.deliver.new.out) (g.E.Sink.written c.args.err.now) (g.E.Sink.written c.deliver.new.err) c.compose.ensures.texts c.deliver.ensures.delivered in
    chain_headline c.args.words.now (g.S.Source.left c.args.source.now) c.deliver.result.detail why

pub returns-clause-only_chain : goal.returns-clause-only_chain
returns-clause-only_chain g c =
    let why = reason_delivered c.args.words.now (g.S.Source.left c.args.source.now) c.compose.result.detail c.deliver.result.detail c.compose.result.out (g.O.Sink.written c.args.out.now) (g.O.Sink.written c.deliver.new.out) (g.E.Sink.written c.args.err.now) (g.E.Sink.written c.deliver.new.err) c.compose.ensures.texts c.deliver.ensures.delivered in
    Lemmas.only_chain c.args.words.now (g.S.Source.left c.args.source.now) c.deliver.result.detail why

pub returns-clause-only_answer : goal.returns-clause-only_answer
returns-clause-only_answer g c =
    let why = reason_delivered c.args.words.now (g.S.Source.left c.args.source.now) c.compose.result.detail c.deliver.result.detail c.compose.result.out (g.O.Sink.written c.args.out.now) (g.O.Sink.written c.deliver.new.out) (g.E.Sink.written c.args.err.now) (g.E.Sink.written c.deliver.new.err) c.compose.ensures.texts c.deliver.ensures.delivered in
    λ mode bytes reading w e few reads. Lemmas.only_answer c.args.words.now (g.S.Source.left c.args.source.now) c.deliver.result.detail why mode bytes reading w e few reads

pub returns-clause-only_proved : goal.returns-clause-only_proved
returns-clause-only_proved g c =
    let why = reason_delivered c.args.words.now (g.S.Source.left c.args.source.now) c.compose.result.detail c.deliver.result.detail c.compose.result.out (g.O.Sink.written c.args.out.now) (g.O.Sink.written c.deliver.new.out) (g.E.Sink.written c.args.err.now) (g.E.Sink.written c.deliver.new.err) c.compose.ensures.texts c.deliver.ensures.delivered in
    λ budget bytes p w e few spells fragment valid.
    let answer = Lemmas.only_answer c.args.words.now (g.S.Source.left c.args.source.now) c.deliver.result.detail why (Prove budget) bytes (OneSystem p) w e few spells in
    Lemmas.only_proved p budget c.deliver.result.detail answer fragment valid

pub returns-clause-only_counter : goal.returns-clause-only_counter
returns-clause-only_counter g c =
    let why = reason_delivered c.args.words.now (g.S.Source.left c.args.source.now) c.compose.result.detail c.deliver.result.detail c.compose.result.out (g.O.Sink.written c.args.out.now) (g.O.Sink.written c.deliver.new.out) (g.E.Sink.written c.args.err.now) (g.E.Sink.written c.deliver.new.err) c.compose.ensures.texts c.deliver.ensures.delivered in
    λ budget bytes p index v w e few spells fragment broken.
    let answer = Lemmas.only_answer c.args.words.now (g.S.Source.left c.args.source.now) c.deliver.result.detail why (Prove budget) bytes (OneSystem p) w e few spells in
    Lemmas.only_counter p budget c.deliver.result.detail index v answer fragment broken

pub returns-clause-never_spent : goal.returns-clause-never_spent
returns-clause-never_spent g c =
    let why = reason_delivered c.args.words.now (g.S.Source.left c.args.source.now) c.compose.result.detail c.deliver.result.detail c.compose.result.out (g.O.Sink.written c.args.out.now) (g.O.Sink.written c.deliver.new.out) (g.E.Sink.written c.args.err.now) (g.E.Sink.written c.deliver.new.err) c.compose.ensures.texts c.deliver.ensures.delivered in
    λ budget bytes p w e few spells enough.
    let answer = Lemmas.only_answer c.args.words.now (g.S.Source.left c.args.source.now) c.deliver.result.detail why (Prove budget) bytes (OneSystem p) w e few spells in
    Lemmas.never_spent p budget c.deliver.result.detail answer enough
