use Rattle.cidr_merge.proofs.Known.{◌<◌, ◌≤◌, ℕ, drop, get_or, length, map, flat_map, match_lines, sought_as, ToldSoFar}
use Rattle.cidr_merge.proofs.searching.print_found.Given as goal

abbrev pub invariant-loop-at : goal.invariant-loop-at
invariant-loop-at g l =
    let of = match_lines l.line.name.now l.line.number l.line.text.now l.entry in record {
      before : (k d : ℕ) → k < l.at → get_or l.places k d < l.next;
      within : l.next ≤ length l.sought;
      told : ToldSoFar (flat_map of (map sought_as l.sought))
          (flat_map (λ one. of (sought_as one)) (drop l.next l.sought))
          l.initial.output l.output l.printed;
    }
