use Rattle.cidr.proofs.Known.{◌∙◌, sym, rules, has_failed, ran_output, ran_succeeds}
use Rattle.cidr.proofs.run.run_limited.Goals as goal

pub returns : goal.returns
returns g c =
    let all = c.answer_all.ensures in
    record {
      ran = all.ran;
      reader_failed = all.reader_failed;
      writer_failed = all.writer_failed;
      reader_first = search rules;
      writer_next = search rules;
      uncalled = search rules;
      output = ran_output c.args.limit _ _ _ _ c.answer_all.result all.ran;
      succeeds = λ input e fits r w. ran_succeeds c.args.limit _ _ _ _ c.answer_all.result
          (has_failed c.args.reader.now) (has_failed c.args.writer.now) all.ran input e fits
          (sym all.reader_failed ∙ r) (sym all.writer_failed ∙ w);
    }
