use Rattle.std.proofs.Common.{List, ℕ, sym, subst, length, ◌≤◌, arith}
use Rattle.io_edge.specs.Telling.{Gives}
use Rattle.io_edge.proofs.Reading.{gives_trans}
use Rattle.io_edge.proofs.Chunking.{one_chunk_more}
use Rattle.io_edge.proofs.file_shelf.read_to_limit.Goals as goal

pub loop-file-preserved : goal.loop-file-preserved
loop-file-preserved g c =
    let i = c.loop-file.invariant in
    let before = g.F.Source.left c.args.file.now in
    let between = g.F.Source.left c.loop-file.file in
    let now = g.F.Source.left c.read_chunk.new.file in
    let read = c.read_chunk.ensures.read in
    let short : length c.loop-file.text.items ≤ c.args.limit = omega (arith, c.loop-file-test.true, c.len.ensures, c.loop-file.text.ok.0) in
    record {
      bound = c.read_chunk.ensures.bound;
      given = subst (λ (xs : List ℕ). Gives before xs now) (sym {A = List ℕ} read.1) (gives_trans before between now c.loop-file.text.items read.0 i.given read.2);
      chunks = one_chunk_more c.args.limit (length c.loop-file.text.items) (length c.read_chunk.new.text.items) i.chunks short (c.in-Ok-false.ensures.chunk c.in-Ok-false.field-0-test);
    }
