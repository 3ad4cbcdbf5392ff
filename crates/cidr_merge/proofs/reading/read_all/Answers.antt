use Rattle.cidr_merge.proofs.Known.{◌+◌, ℕ, List, subst, arith, err_from_is_err_and, source, ReadsOne, StopsOne, reads_on, stops_in}
use Rattle.cidr_merge.proofs.reading.read_all.Goals as goal

pub loop-place-preserved : goal.loop-place-preserved
loop-place-preserved g c =
    let from = source (g.L.OpenLists.known c.args.context.now.lists.now) c.args.context.now.sets.now.fields c.args.shape in
    record {
      read = reads_on from c.args.names.now c.args.first
          c.loop-place.place c.index-names-place.result c.args.reader.now c.loop-place.reader
          c.read_one.new.reader (omega arith) c.index-names-place.is c.loop-place.invariant.read
          (subst (λ (n : List ℕ). ReadsOne from (c.args.first + c.loop-place.place) n
          c.loop-place.reader c.read_one.new.reader) c.as_str.ensures.value
          c.in_ok-read_one.ensures.read);
      memory = c.in_ok-read_one.ensures.memory;
    }

pub returns-in_err-read_one-clause-stopped : goal.returns-in_err-read_one-clause-stopped
returns-in_err-read_one-clause-stopped g c =
    let from = source (g.L.OpenLists.known c.args.context.now.lists.now) c.args.context.now.sets.now.fields c.args.shape in
    let p = err_from_is_err_and c.from_residual.result c.from_residual.ensures.1 in
    rw (p.1, p.2)
    (stops_in from c.args.names.now c.args.first c.loop-place.place c.index-names-place.result c.args.reader.now
    c.loop-place.reader _ _ (omega arith) c.index-names-place.is c.loop-place.invariant.read
    c.loop-place.invariant.memory
    (subst (λ (n : List ℕ). StopsOne from (c.args.first + c.loop-place.place) n
    c.loop-place.reader c.in_err-read_one.field-0.0 c.read_one.new.reader.refused)
    c.as_str.ensures.value c.in_err-read_one.ensures.stopped))
