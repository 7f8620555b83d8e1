-- The example protocols, line by line.
use Rattle.std.specs.Prelude.{List, [], ◌∷◌, ◌++◌, codes, flat_map}
use Rattle.proto_model.specs.Tokens.{Text}
use Rattle.rvc_top.specs.declared.example.Example.{Example}
use Rattle.rvc_top.specs.declared.example.Example.TheVariants.{Migratory, Invalidate}

-- A cache line has one owner at a time, which gets it with the right to write.
abbrev pub migratory_lines : List Text
migratory_lines =
    codes "protocol migratory;" ∷
    codes "message req up;" ∷
    codes "message gr down int 2;" ∷
    codes "message lr up int 2;" ∷
    codes "message inv down;" ∷
    codes "message id up int 2;" ∷
    codes "home {" ∷
    codes "  var o node = none;" ∷
    codes "  var j node = none;" ∷
    codes "  var d int 2 = 0;" ∷
    codes "  start F;" ∷
    codes "  state F {" ∷
    codes "    from any j ? req goto G;" ∷
    codes "  }" ∷
    codes "  state G {" ∷
    codes "    to j ! gr(d) do o = j goto E;" ∷
    codes "  }" ∷
    codes "  state E {" ∷
    codes "    from any j ? req goto I1;" ∷
    codes "    from o ? lr(d) do o = none goto F;" ∷
    codes "  }" ∷
    codes "  state I1 {" ∷
    codes "    to o ! inv goto I2;" ∷
    codes "    from o ? lr(d) goto G;" ∷
    codes "  }" ∷
    codes "  state I2 {" ∷
    codes "    from o ? id(d) goto G;" ∷
    codes "  }" ∷
    codes "}" ∷
    codes "remote {" ∷
    codes "  var d int 2 = 0;" ∷
    codes "  start I;" ∷
    codes "  state I {" ∷
    codes "    tau goto R;" ∷
    codes "  }" ∷
    codes "  state R {" ∷
    codes "    to home ! req goto W;" ∷
    codes "  }" ∷
    codes "  state W {" ∷
    codes "    from home ? gr(d) goto V;" ∷
    codes "  }" ∷
    codes "  state V {" ∷
    codes "    tau do d = d + 1 goto V;" ∷
    codes "    tau goto L;" ∷
    codes "    from home ? inv goto D;" ∷
    codes "  }" ∷
    codes "  state L {" ∷
    codes "    to home ! lr(d) goto I;" ∷
    codes "  }" ∷
    codes "  state D {" ∷
    codes "    to home ! id(d) goto I;" ∷
    codes "  }" ∷
    codes "}" ∷
    []

-- A cache line has many readers or one writer.
abbrev pub invalidate_lines : List Text
invalidate_lines =
    codes "protocol invalidate;" ∷
    codes "message rs up;" ∷
    codes "message rx up;" ∷
    codes "message gs down int 2;" ∷
    codes "message gx down int 2;" ∷
    codes "message ev up;" ∷
    codes "message wb up int 2;" ∷
    codes "message inv down;" ∷
    codes "message ia up;" ∷
    codes "message fetch down;" ∷
    codes "message fd up int 2;" ∷
    codes "home {" ∷
    codes "  var j node = none;" ∷
    codes "  var o node = none;" ∷
    codes "  var v node = none;" ∷
    codes "  var s set = empty;" ∷
    codes "  var d int 2 = 0;" ∷
    codes "  start U;" ∷
    codes "  state U {" ∷
    codes "    from any j ? rs goto GS;" ∷
    codes "    from any j ? rx goto INV;" ∷
    codes "    from any v in s ? ev do s = s - v goto U;" ∷
    codes "  }" ∷
    codes "  state GS {" ∷
    codes "    to j ! gs(d) do s = s + j goto U;" ∷
    codes "  }" ∷
    codes "  state INV {" ∷
    codes "    to any v in s ! inv goto IA;" ∷
    codes "    from any v in s ? ev do s = s - v goto INV;" ∷
    codes "    tau when s eq empty goto GX;" ∷
    codes "  }" ∷
    codes "  state IA {" ∷
    codes "    from v ? ia do s = s - v goto INV;" ∷
    codes "  }" ∷
    codes "  state GX {" ∷
    codes "    to j ! gx(d) do o = j goto X;" ∷
    codes "  }" ∷
    codes "  state X {" ∷
    codes "    from any j ? rs goto FS;" ∷
    codes "    from any j ? rx goto FX;" ∷
    codes "    from o ? wb(d) do o = none goto U;" ∷
    codes "  }" ∷
    codes "  state FS {" ∷
    codes "    to o ! fetch goto WS;" ∷
    codes "    from o ? wb(d) do o = none goto GS;" ∷
    codes "  }" ∷
    codes "  state WS {" ∷
    codes "    from o ? fd(d) do o = none goto GS;" ∷
    codes "  }" ∷
    codes "  state FX {" ∷
    codes "    to o ! fetch goto WX;" ∷
    codes "    from o ? wb(d) do o = none goto GX;" ∷
    codes "  }" ∷
    codes "  state WX {" ∷
    codes "    from o ? fd(d) goto GX;" ∷
    codes "  }" ∷
    codes "}" ∷
    codes "remote {" ∷
    codes "  var d int 2 = 0;" ∷
    codes "  start I;" ∷
    codes "  state I {" ∷
    codes "    tau goto RS;" ∷
    codes "    tau goto RX;" ∷
    codes "  }" ∷
    codes "  state RS {" ∷
    codes "    to home ! rs goto WS;" ∷
    codes "  }" ∷
    codes "  state WS {" ∷
    codes "    from home ? gs(d) goto S;" ∷
    codes "  }" ∷
    codes "  state RX {" ∷
    codes "    to home ! rx goto WX;" ∷
    codes "  }" ∷
    codes "  state WX {" ∷
    codes "    from home ? gx(d) goto M;" ∷
    codes "  }" ∷
    codes "  state S {" ∷
    codes "    tau goto E;" ∷
    codes "    from home ? inv goto A;" ∷
    codes "  }" ∷
    codes "  state E {" ∷
    codes "    to home ! ev goto I;" ∷
    codes "  }" ∷
    codes "  state A {" ∷
    codes "    to home ! ia goto I;" ∷
    codes "  }" ∷
    codes "  state M {" ∷
    codes "    tau do d = d + 1 goto M;" ∷
    codes "    tau goto B;" ∷
    codes "    from home ? fetch goto F;" ∷
    codes "  }" ∷
    codes "  state B {" ∷
    codes "    to home ! wb(d) goto I;" ∷
    codes "  }" ∷
    codes "  state F {" ∷
    codes "    to home ! fd(d) goto I;" ∷
    codes "  }" ∷
    codes "}" ∷
    []

-- the lines, each with its LF
abbrev pub lines_text : List Text → Text
lines_text lines = flat_map (λ line. line ++ codes "\n") lines

-- the text of an example
abbrev pub example_text : Example → Text
example_text Migratory = lines_text migratory_lines
example_text Invalidate = lines_text invalidate_lines
