-- One more declaration is numbered: by its place where its name is new, and as before where it
-- isn't.
use Rattle.std.proofs.Common.{◌∙◌, Some, sym, arith}
use Rattle.std.specs.Str.{bytes_eq}
use Rattle.std.proofs.lemmas.Map.Text.{hash_map_updates_str}
use Rattle.indexmap.specs.IndexMap.{get_by}
use Rattle.star_check.proofs.OneMore.{new_name, old_name}
use Rattle.star_check.proofs.declared.numbering.Goals as goal
use Rattle.star_check.proofs.declared.numbering.Goals.{then-not-contains_key+in_ok-insert}
use Rattle.star_check.proofs.declared.numbering.Goals.{else-not-contains_key}

pub loop-place-preserved : goal.loop-place-preserved
loop-place-preserved g c = λ q.
    elim c.if-not-contains_key.branch [
      | then-not-contains_key+in_ok-insert w ↦
          rw w.places-is
          (new_name g.T.Declaration.name_of c.args.items.now c.loop-place.place
          c.index-items-place.result c.bytes-name.result.now
          (λ name. get_by (λ key. bytes_eq name key.now) c.loop-place.places)
          (omega arith) c.index-items-place.is (c.bytes-name.ensures.value ∙ c.name.ensures)
          c.loop-place.invariant
          (sym c.contains_key.ensures ∙ w.if-not-contains_key.true)
          (λ name. get_by (λ key. bytes_eq name key.now) w.insert.new.self)
          (hash_map_updates_str c.bytes-name.result.now c.loop-place.places w.insert.new.self
          (Some c.loop-place.place) w.in_ok-insert.ensures.updates) q)
      | else-not-contains_key w ↦
          rw w.places-is
          (old_name g.T.Declaration.name_of c.args.items.now c.loop-place.place
          c.index-items-place.result c.bytes-name.result.now
          (λ name. get_by (λ key. bytes_eq name key.now) c.loop-place.places)
          (omega arith) c.index-items-place.is (c.bytes-name.ensures.value ∙ c.name.ensures)
          c.loop-place.invariant
          (sym c.contains_key.ensures ∙ w.if-not-contains_key.false) q)
    ]
