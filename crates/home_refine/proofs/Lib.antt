pub mod CopiedParts
