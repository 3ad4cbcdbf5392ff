use Rattle.cidr_join.proofs.Known.{◌+◌, ◌++◌, ℕ, Bool, List, [], false, map, drop, take, inl, inr, refl, sym, ap, subst, arith, string_bytes, drop_all, ends_here, goes_more, name_next, name_within, counted_in, never, GivesOne, CountsNames, counts_nothing, counts_both}
use Rattle.cidr_join.proofs.tally_logs.tally_each.Goals as goal

pub loop-file-init : goal.loop-file-init
loop-file-init g c = record {
  room = c.requires.room;
  names = record {
    marks = [];
    counts = counts_nothing c.args.numbered.now.founds.items c.args.counts.now;
    goes_on = λ cut given end h. h;
  };
}

pub loop-file-preserved : goal.loop-file-preserved
loop-file-preserved g c =
    let founds = c.args.numbered.now.founds.items in
    let known = g.L.OpenLists.known c.args.lists.now in
    let files = c.args.files.now in
    let all = map string_bytes files in
    let i = c.loop-file.file-index in
    let name = c.as_str-name.result.now in
    let rest = map string_bytes (drop (i + 1) files) in
    let f = subst
    (λ (n : List (List ℕ)). CountsNames founds c.args.join.now known all n c.loop-file.missed c.args.counts.now
    c.loop-file.counts)
    (name_next files i c.file-item.result name (omega arith) c.file-item.is c.as_str-name.ensures.value)
    c.loop-file.invariant.names in
    let one = c.in-Some.ensures in
    record {
      room = omega (arith, c.loop-file.invariant.room, c.tally_one.auto.buffer);
      names = subst
          (λ (m : Bool). CountsNames founds c.args.join.now known all rest m c.args.counts.now c.tally_one.new.counts)
          (sym c.either-missed.ensures) (record {
            marks = f.marks ++ one.0;
            counts = counts_both founds c.args.counts.now c.loop-file.counts c.tally_one.new.counts f.marks
                one.0 f.counts
                one.1;
            goes_on = λ cut. goes_more never (GivesOne counted_in c.args.join.now known cut) false false
                c.loop-file.missed
                _ all rest name f.marks one.0 (f.goes_on cut)
                refl (one.2 cut c.loop-file.missed);
          });
    }

pub returns-in_default : goal.returns-in_default
returns-in_default g c =
    let founds = c.args.numbered.now.founds.items in
    let known = g.L.OpenLists.known c.args.lists.now in
    let files = c.args.files.now in
    let all = map string_bytes files in
    let i = c.loop-file.file-index in
    let name = c.as_str-name.result.now in
    let rest = map string_bytes (drop (i + 1) files) in
    let f = subst
    (λ (n : List (List ℕ)). CountsNames founds c.args.join.now known all n c.loop-file.missed c.args.counts.now
    c.loop-file.counts)
    (name_next files i c.file-item.result name (omega arith) c.file-item.is c.as_str-name.ensures.value)
    c.loop-file.invariant.names in
    elim c.in_default.ensures [
      | inl memory ↦ inl memory
      | inr one ↦ inr (
        one.0,
        f.marks ++ one.1,
        f.goes_on one.0 one.1 _
            (ends_here never (GivesOne counted_in c.args.join.now known one.0) false c.loop-file.missed name rest one.1
            refl (one.2 c.loop-file.missed)),
        λ cuts. (
          map string_bytes (take i files),
          name,
          rest,
          name_within files i c.file-item.result name (omega arith) c.file-item.is c.as_str-name.ensures.value,
          one.3 cuts,
        ),
      )
    ]

pub returns : goal.returns
returns g c =
    subst (λ (n : List (List ℕ)). CountsNames c.args.numbered.now.founds.items c.args.join.now
    (g.L.OpenLists.known c.args.lists.now) (map string_bytes c.args.files.now) n
    c.loop-file.missed c.args.counts.now c.loop-file.counts)
    (ap (map string_bytes) (drop_all c.loop-file.file-index c.args.files.now (omega arith))) c.loop-file.invariant.names
